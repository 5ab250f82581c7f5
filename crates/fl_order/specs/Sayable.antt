-- Which orders, replies and lines of heads can be said, in bytes and in text: those whose numbers fit their fields.
use Rattle.std.specs.Prelude.{◌<◌, ◌^◌, Result, Ok, Err}
use Rattle.fl_order.specs.Name.{IsName}
use Rattle.fl_order.specs.Order.{body_of}
use Rattle.fl_order.specs.declared.body.Body.{Body}
use Rattle.fl_order.specs.declared.body.Body.TheVariants as body
use Rattle.fl_order.specs.declared.errno.Errno.{Errno}
use Rattle.fl_order.specs.declared.order.Order.{Order}
use Rattle.fl_order.specs.declared.order.LockAsk.{LockAsk}
use Rattle.fl_order.specs.declared.order.Op.{Op}
use Rattle.fl_order.specs.declared.state_part.Head.{Head}
use Rattle.fl_order.specs.declared.state_part.StateLine.{StateLine}
use Rattle.fl_order.specs.declared.state_part.StateLine.TheVariants as state
use Rattle.fl_order.specs.declared.state_part.StatePart.{StatePart}
use Rattle.fl_order.specs.declared.state_part.StatePart.TheVariants as part
use Rattle.fl_order.specs.declared.told.Answer.{Answer}
use Rattle.fl_order.specs.declared.told.Answer.TheVariants.{Done, Entry, Attr, Open, Made, Lock}
use Rattle.fl_order.specs.declared.told.Attr.{Attr as Attributes}
use Rattle.fl_order.specs.declared.told.Told.{Told}

-- the numbers of a lock request fit their fields
pub record FitsLock (ask : LockAsk) : Type 0 where
  pub fh : ask.fh < 2 ^ 64
  pub owner : ask.owner < 2 ^ 64
  pub start : ask.start < 2 ^ 64
  pub end : ask.end < 2 ^ 64
  pub kind : ask.kind < 2 ^ 32
  pub pid : ask.pid < 2 ^ 32
  pub flags : ask.flags < 2 ^ 32

-- so do those of a body; the mode of a CREATE has permissions alone, which are octal 777
abbrev pub FitsBody : Body → Type 0
FitsBody (body.Lock ask) = FitsLock ask
FitsBody (body.Create excl mode name) = (mode < 512) × IsName name
FitsBody (body.Make mode name) = (mode < 2 ^ 32) × IsName name
FitsBody (body.Name name) = IsName name
FitsBody (body.Number n) = n < 2 ^ 64
FitsBody (body.Flush fh owner) = (fh < 2 ^ 64) × (owner < 2 ^ 64)
FitsBody (body.Release fh unlocks owner) = (fh < 2 ^ 64) × (owner < 2 ^ 64)
FitsBody body.Getattr = Unit {0}
FitsBody body.Open = Unit {0}

-- so does what is asked
abbrev pub FitsOp : Op → Type 0
FitsOp op = FitsBody (body_of op)

-- an order that can be said
pub record IsSayable (order : Order) : Type 0 where
  pub unique : order.unique < 2 ^ 64
  pub node : order.node < 2 ^ 64
  pub uid : order.uid < 2 ^ 32
  pub gid : order.gid < 2 ^ 32
  pub pid : order.pid < 2 ^ 32
  pub op : FitsOp order.op

-- the numbers of attributes fit their fields
pub record FitsAttr (attr : Attributes) : Type 0 where
  pub node : attr.node < 2 ^ 64
  pub mode : attr.mode < 2 ^ 32
  pub nlink : attr.nlink < 2 ^ 32
  pub uid : attr.uid < 2 ^ 32
  pub gid : attr.gid < 2 ^ 32

-- so do those of an answer
abbrev pub FitsAnswer : Answer → Type 0
FitsAnswer Done = Unit {0}
FitsAnswer (Entry attr) = FitsAttr attr
FitsAnswer (Attr attr) = FitsAttr attr
FitsAnswer (Open fh) = fh < 2 ^ 64
FitsAnswer (Made attr fh) = FitsAttr attr × (fh < 2 ^ 64)
FitsAnswer (Lock start end kind pid) = (start < 2 ^ 64) × (end < 2 ^ 64) × (kind < 2 ^ 32) × (pid < 2 ^ 32)

-- an error always does
abbrev pub FitsResult : Result Answer Errno → Type 0
FitsResult (Ok answer) = FitsAnswer answer
FitsResult (Err e) = Unit {0}

-- a reply that can be said
pub record FitsTold (told : Told) : Type 0 where
  pub unique : told.unique < 2 ^ 64
  pub result : FitsResult told.result

-- the numbers of what a head begins with fit their fields
pub record FitsHead (head : Head) : Type 0 where
  pub lines : head.lines < 2 ^ 64
  pub runs : head.runs < 2 ^ 32
  pub parked : head.parked < 2 ^ 32
  pub files : head.files < 2 ^ 32
  pub open_files : head.open_files < 2 ^ 32
  pub node : head.node < 2 ^ 64
  pub fh : head.fh < 2 ^ 64

-- so do those of a part
abbrev pub FitsPart : StatePart → Type 0
FitsPart (part.Node number lookups linked mode uid gid name) =
    (number < 2 ^ 64) × (lookups < 2 ^ 64) × (mode < 2 ^ 32) × (uid < 2 ^ 32) × (gid < 2 ^ 32) × IsName name
FitsPart (part.File fh node) = (fh < 2 ^ 64) × (node < 2 ^ 64)
FitsPart (part.Lock node owner start end write pid flock) =
    (node < 2 ^ 64) × (owner < 2 ^ 64) × (start < 2 ^ 64) × (end < 2 ^ 64) × (pid < 2 ^ 32)
FitsPart (part.Wait unique node ask) = (unique < 2 ^ 64) × (node < 2 ^ 64) × FitsLock ask

-- so do those of a line of a head
abbrev pub FitsState : StateLine → Type 0
FitsState (state.Head head) = FitsHead head
FitsState (state.Part part) = FitsPart part
FitsState state.Go = Unit {0}
