-- How lines are kept in few bytes: a small record for each, and what it leads to.
use Rattle.std.specs.Prelude.{◌≡◌, ℕ, ◌+◌, ◌*◌, ◌≤◌, ◌<◌, Option, Some, None, Ok, Err, List, [], ◌++◌, map, length}
use Rattle.std.specs.Prelude.{take, drop}
use Rattle.std.specs.List.{slice_get, AllByRecursion}
use Rattle.fl_history.specs.declared.history.Line.{Line}
use Rattle.fl_history.specs.declared.history.Line.TheVariants as line
use Rattle.fl_history.specs.declared.records.NameSpan.{NameSpan}
use Rattle.fl_history.specs.declared.records.ShortOp.{ShortOp}
use Rattle.fl_history.specs.declared.records.ShortOp.TheVariants as short
use Rattle.fl_history.specs.declared.records.ShortOrder.{ShortOrder}
use Rattle.fl_history.specs.declared.records.Answered.{Answered}
use Rattle.fl_history.specs.declared.records.ShortLine.{ShortLine}
use Rattle.fl_history.specs.declared.records.ShortLine.TheVariants as record_of
use Rattle.fl_order.specs.Name.{IsName}
use Rattle.fl_order.specs.Order.{op_of}
use Rattle.fl_order.specs.declared.body.Body.{Body}
use Rattle.fl_order.specs.declared.body.Body.TheVariants as body
use Rattle.fl_order.specs.declared.kind.OpKind.{OpKind}
use Rattle.fl_order.specs.declared.order.Op.{Op}
use Rattle.fl_order.specs.declared.order.LockAsk.{LockAsk}
use Rattle.fl_order.specs.declared.order.Order.{Order}
use Rattle.fl_order.specs.declared.state_part.StateLine.{StateLine}
use Rattle.fl_order.specs.declared.told.Answer.TheVariants.{Done}

-- the bytes of the name in a body, none if it names nothing
abbrev pub name_in : Body → List ℕ
name_in (body.Create excl mode name) = name
name_in (body.Make mode name) = name
name_in (body.Name name) = name
name_in _ = []

-- a lock request, kept flat
abbrev pub short_lock : OpKind → LockAsk → ShortOp
short_lock kind a = short.Lock kind a.kind a.pid a.flags a.fh a.owner a.start a.end

-- a kind and a body, with a place in the names instead of the name
abbrev pub short_op : NameSpan → OpKind → Body → ShortOp
short_op span kind (body.Lock ask) = short_lock kind ask
short_op span kind (body.Create excl mode name) = short.Create kind excl mode span
short_op span kind (body.Make mode name) = short.Make kind mode span
short_op span kind (body.Name name) = short.Name kind span
short_op span kind (body.Number n) = short.Number kind n
short_op span kind (body.Flush fh owner) = short.Flush kind fh owner
short_op span kind (body.Release fh unlocks owner) = short.Release kind unlocks fh owner
short_op span kind body.Getattr = short.Getattr kind
short_op span kind body.Open = short.Open kind

-- an order of a worker, with what is kept of what it asks
abbrev pub ask_of : ℕ → Order → ShortOp → ShortOrder
ask_of worker o op = record {
  worker = worker;
  uid = o.uid;
  gid = o.gid;
  pid = o.pid;
  unique = o.unique;
  node = o.node;
  op = op;
}

-- the bytes at a place in the names
abbrev pub bytes_at : List ℕ → NameSpan → List ℕ
bytes_at names span = take span.len (drop span.start names)

-- the kind and the body of what was asked
abbrev pub opened_parts : List ℕ → ShortOp → OpKind × Body
opened_parts names (short.Lock what kind pid flags fh owner start end) = (
  what,
  body.Lock
      (record { fh = fh; owner = owner; start = start; end = end; kind = kind; pid = pid; flags = flags }),
)
opened_parts names (short.Create what excl mode span) = (what, body.Create excl mode (bytes_at names span))
opened_parts names (short.Make what mode span) = (what, body.Make mode (bytes_at names span))
opened_parts names (short.Name what span) = (what, body.Name (bytes_at names span))
opened_parts names (short.Number what n) = (what, body.Number n)
opened_parts names (short.Flush what fh owner) = (what, body.Flush fh owner)
opened_parts names (short.Release what unlocks fh owner) = (what, body.Release fh unlocks owner)
opened_parts names (short.Getattr what) = (what, body.Getattr)
opened_parts names (short.Open what) = (what, body.Open)

-- what was asked; none if no order has these parts
abbrev pub opened_op : List ℕ → ShortOp → Option Op
opened_op names op = op_of (opened_parts names op).0 (opened_parts names op).1

-- the line of no record
abbrev pub no_line : Line
no_line = line.Told (record { unique = 0; result = Ok Done })

abbrev pub line_or_none : {A : Type 0} → (A → Line) → Option A → Line
line_or_none f None = no_line
line_or_none f (Some a) = f a

-- the line of an order that asks this
abbrev pub line_asking : ShortOrder → Op → Line
line_asking a op =
    line.Asked a.worker (record {
      unique = a.unique;
      node = a.node;
      uid = a.uid;
      gid = a.gid;
      pid = a.pid;
      op = op;
    })

-- the line of an order
abbrev pub asked_line : List ℕ → ShortOrder → Line
asked_line names a = line_or_none (line_asking a) (opened_op names a.op)

-- the line of a reply that tells more than that it is done
abbrev pub answered_line : Answered → Line
answered_line a = line.Told (record { unique = a.unique; result = Ok a.answer })

-- the line of a record
abbrev pub opened : List ShortOrder → List Answered → List StateLine → List ℕ → ShortLine → Line
opened asks answers states names (record_of.Asked at) = line_or_none (asked_line names) (slice_get asks at)
opened asks answers states names (record_of.Answered at) = line_or_none answered_line (slice_get answers at)
opened asks answers states names (record_of.Done unique) = line.Told (record { unique = unique; result = Ok Done })
opened asks answers states names (record_of.Failed error unique) =
    line.Told (record { unique = unique; result = Err error })
opened asks answers states names (record_of.State at) = line_or_none line.State (slice_get states at)

-- the lines of records
abbrev pub opened_all : List ShortOrder → List Answered → List StateLine → List ℕ → List ShortLine → List Line
opened_all asks answers states names records = map (opened asks answers states names) records

-- the second list begins with the first
pub record Begins {A : Type 0} (xs ys : List A) : Type 0 where
  pub rest : List A
  pub is : ys ≡ xs ++ rest

-- a name is at this place
pub record IsNamed (names : List ℕ) (span : NameSpan) : Type 0 where
  pub within : span.start + span.len ≤ length names
  pub name : IsName (bytes_at names span)

-- what was asked names what is there
abbrev pub NamesAreThere : List ℕ → ShortOp → Type 0
NamesAreThere names (short.Create what excl mode span) = IsNamed names span
NamesAreThere names (short.Make what mode span) = IsNamed names span
NamesAreThere names (short.Name what span) = IsNamed names span
NamesAreThere names _ = Unit {0}

-- what is kept of what an order asks leads back to it
pub record LeadsBack (names : List ℕ) (op : ShortOp) : Type 0 where
  pub named : NamesAreThere names op
  pub asked : Op
  pub is : opened_op names op ≡ Some asked

-- a record leads to what is there
abbrev pub IsThere : ℕ → ℕ → ℕ → ShortLine → Type 0
IsThere asks answers states (record_of.Asked at) = at < asks
IsThere asks answers states (record_of.Answered at) = at < answers
IsThere asks answers states (record_of.State at) = at < states
IsThere asks answers states _ = Unit {0}

-- All that is kept leads to what is there.
pub record AreKept (records : List ShortLine) (asks : List ShortOrder) (answers : List Answered)
    (states : List StateLine) (names : List ℕ) : Type 0 where
  pub there : AllByRecursion (IsThere (length asks) (length answers) (length states)) records
  pub back : AllByRecursion (λ (a : ShortOrder). LeadsBack names a.op) asks

-- For so many more orders and replies memory is there, whatever they are.
pub record HaveRoom (room records asks answers names : ℕ) : Type 0 where
  pub for_records : room ≤ records
  pub for_asks : room ≤ asks
  pub for_answers : room ≤ answers
  pub for_names : room * 255 ≤ names
