-- What a session with workers did.
use Rattle.std.specs.Prelude.{◌≡◌, ℕ, ◌+◌, ◌≤◌, ◌⊎◌, Bool, true, false, List, [], ◌∷◌, ◌++◌, All, length, None}
use Rattle.std.specs.Prelude.{IfSome, IsSome, Some, flat_map, map, sum_by}
use Rattle.std.specs.Io.KnownBytes.{Keeps}
use Rattle.std.specs.List.{range_with_len}
use mathlib.Core.List.{IsPrefix}
use Rattle.fl_counter.specs.Answered.{answered_by}
use Rattle.fl_desk.specs.Answered.{IsAnsweredAfter}
use Rattle.fl_counter.specs.Asked.{Orders}
use Rattle.fl_desk.specs.Legal.{IsLegalFromNothing, orders_asked}
use Rattle.fl_history.specs.declared.history.Line.{Line}
use Rattle.fl_intake.specs.Often.{AreAsOften}
use Rattle.fl_pool.specs.Working.{some_is}
use Rattle.fl_session.specs.Recorded.{done_of, journal_lines}
use Rattle.fl_session.specs.declared.done.Done.{Done}
use Rattle.fl_session.specs.declared.recorded.Recorded.{Recorded}
use Rattle.fl_transport.specs.Collecting.{IsGiven}
use Rattle.fl_transport.specs.Ending.{EndsBy, IsRead}
use Rattle.fl_transport.specs.Handshake.{handshake_of}
use Rattle.fl_transport.specs.Said.{said_in}
use Rattle.fl_transport.specs.Streams.{Streams}
use Rattle.fl_transport.specs.declared.fault.Fault.TheVariants.{NoMemory, NoReader}
use Rattle.fl_transport.specs.declared.response.Response.{Response}
use Rattle.fl_waiting.specs.declared.rules.Rules.{Rules}
use Rattle.fl_workers.specs.Received.{IsLast, answer_by, own_answers}
use Rattle.fl_workers.specs.Sent.{entries_of, spelled}
use Rattle.fl_workers.specs.Worked.{AreInTurn, Outcome, answers, entry_for, order_of, some_refused}
use Rattle.fl_workers.specs.declared.entry.ReplyEntry.{ReplyEntry}

-- a worker, and what became of each order that it took, in its order
pub record Part : Type 0 where
  pub worker : ℕ
  pub outcomes : List Outcome

-- the orders that it took
abbrev pub orders_of : Part → Orders
orders_of part = map order_of part.outcomes

-- The orders that the history has of this worker are those that it handed in, in this order, each with its replies, and
-- each behind all that the worker was shown before. Each order that it looked for only reads, and is answered as after
-- a prefix of the history, which has all that it handed in and was shown before.
pub record IsAnswered (rules : Rules) (history : List Line) (part : Part) : Type 0 where
  pub handed : answered_by part.worker history ≡ answers part.outcomes
  pub shown : AreInTurn (IsAnsweredAfter rules) part.worker [] [] part.outcomes history

-- What is stored begins with lines that have each order that this worker handed in, with its replies.
pub record IsKeptIn (stored : List Line) (part : Part) : Type 0 where
  pub front : List Line
  pub begins : IsPrefix front stored
  pub all : answered_by part.worker front ≡ answers part.outcomes

-- The orders of the messages are those that the workers took, each as often. Each of these was handed in, looked for or
-- refused. The history has no order but those that were handed in, and these are stored with their replies. `refused`
-- is true exactly if some order was refused.
pub record AreDone (workers : ℕ) (rules : Rules) (messages : List (List ℕ)) (stored : List Line) (parts : List Part)
    (done : Done) : Type 0 where
  pub whose : map (λ part. part.worker) parts ≡ range_with_len 0 workers
  pub taken : AreAsOften (said_in messages) (flat_map orders_of parts)
  pub each : All (IsAnswered rules done.history) parts
  pub all : orders_asked done.history ≡ sum_by (λ part. length (answers part.outcomes)) parts
  pub kept : All (IsKeptIn stored) parts
  pub refused : done.refused ≡ some_is (map (λ part. some_refused part.outcomes) parts)

-- this was given last: the answer to the DESTROY that ended the session
pub record SaysGoodbye (receiver : ℕ) (messages : List (List ℕ)) (log : List ReplyEntry) : Type 0 where
  pub goodbye : Response
  pub last : IsLast messages goodbye
  pub front : List ReplyEntry
  pub is : log ≡ front ++ answer_by receiver goodbye ∷ []

-- What was given to be sent: by each worker, what is owed for each order that it took, in its order; by the receiver,
-- whose number is that of the workers, the session's own answers to the messages that are no orders, in their order;
-- and nothing else. The answer to a DESTROY is the last.
pub record AreAllGiven (workers : ℕ) (messages : List (List ℕ)) (parts : List Part) (log : List ReplyEntry)
    : Type 0 where
  pub each : All (λ (part : Part). entries_of part.worker log ≡ map (entry_for part.worker) part.outcomes) parts
  pub own : entries_of workers log ≡ map (answer_by workers) (own_answers messages)
  pub no_others : length log ≡ sum_by (λ part. length part.outcomes) parts + length (own_answers messages)
  pub goodbye : (handshake_of messages).over ≡ true → SaysGoodbye workers messages log

-- A worker got no reader, the board couldn't tell the history, what was given to be sent can't be told, or memory ran
-- out before anything was read. Then no order is said to be refused.
pub record HasNoHistory (done : Done) : Type 0 where
  pub fault : (done.fault ≡ Some NoReader) ⊎ (done.fault ≡ Some NoMemory)
  pub history : done.history ≡ []
  pub refused : done.refused ≡ false

-- What was read is whole messages and a rest of at most 8192 bytes, and no message came after one that ended the
-- session. What was written behind what the writer held are the bytes of a log of what was given to be sent, whole
-- replies; after a failed write (`broken`), a prefix of them. The log is as `AreAllGiven` says, the fault is that of
-- the end, and each order of the messages was answered, as `AreDone` says. `stored` are the lines that are stored then.
-- At NoMemory nothing was read, and there is no history. At NoReader neither the history nor the log can be told.
pub record IsServedBy (workers : ℕ) (rules : Rules) (streams : Streams) (stored : List Line) (done : Done)
    : Type 0 where
  pub messages : List (List ℕ)
  pub rest : List ℕ
  pub log : List ReplyEntry
  pub parts : List Part
  pub broken : Bool
  pub is_read : IsRead streams.left streams.left_now messages rest
  pub bounded : length rest ≤ 8192
  pub sent : IsGiven streams.held (record { held = streams.held_now; waiting = []; broken = broken }) (spelled log)
  pub given : AreAllGiven workers messages parts log ⊎ (done.fault ≡ Some NoReader)
  pub ending : EndsBy done.fault broken messages rest streams.left_now ⊎ (done.fault ≡ Some NoReader)
  pub orders : AreDone workers rules messages stored parts done ⊎ HasNoHistory done
  pub unrefused : done.fault ≡ Some NoReader → done.refused ≡ false

-- The result of a session with so many workers under these rules whose lines went to a journal. They are legal and begin
-- with nothing, and with them it served what was read. The journal is there, except at NoReader, and at NoMemory, when nothing was read
-- or written. `lines` and `stored` are what a journal says of its lines.
pub record IsRecordedBy {K : Type 0} (lines stored : K → List Line) (workers : ℕ) (rules : Rules) (streams : Streams)
    (it : Recorded K) : Type 0 where
  pub legal : IfSome it.journal (λ journal. IsLegalFromNothing rules (lines journal))
  pub served : IsServedBy workers rules streams (journal_lines stored it.journal) (done_of lines it)
  pub back : IsSome it.journal ⊎ (it.fault ≡ Some NoMemory) ⊎ (it.fault ≡ Some NoReader)
  pub nothing : it.fault ≡ Some NoMemory → (it.journal ≡ None) × Keeps streams.left streams.left_now
  pub unwritten : it.fault ≡ Some NoMemory → Keeps streams.held streams.held_now
  pub untold : it.fault ≡ Some NoReader → it.journal ≡ None
