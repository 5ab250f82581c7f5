-- What a worker does with the orders that it takes, and what it gives to be sent for each.
use Rattle.std.specs.Prelude.{◌≡◌, ℕ, Bool, true, false, List, [], ◌∷◌, ◌++◌, map, Result, ◌||◌}
use mathlib.Core.List.{IsPrefix, Sublistᴰ}
use Rattle.fl_counter.specs.Answered.{Answered, answered, answered_by, step_lines}
use Rattle.fl_counter.specs.Asked.{Orders}
use Rattle.fl_history.specs.declared.history.Line.{Line}
use Rattle.fl_log.specs.Appended.{Appended}
use Rattle.fl_log.specs.Growing.{Grows}
use Rattle.fl_order.specs.Order.{kind_of, only_reads}
use Rattle.fl_order.specs.declared.errno.Errno.{Errno}
use Rattle.fl_order.specs.declared.order.Order.{Order}
use Rattle.fl_order.specs.declared.told.Answer.{Answer}
use Rattle.fl_order.specs.declared.told.Told.{Told}
use Rattle.fl_transport.specs.Response.{lost}
use Rattle.fl_workers.specs.Sent.{HasSent, entry, replies_of, replies_to}
use Rattle.fl_workers.specs.declared.entry.Reply.{Reply}
use Rattle.fl_workers.specs.declared.entry.ReplyEntry.{ReplyEntry}

-- What became of an order: it was handed in, and these are the replies that it gave in the history; or it was looked
-- for, and this is what it is answered after this history; or it was refused.
pub data Outcome : Type 0 where
  handed : (order : Order) (tolds : List Told) → Outcome
  looked : (order : Order) (result : Result Answer Errno) (at : List Line) → Outcome
  refused : (order : Order) → Outcome

-- the order
abbrev pub order_of : Outcome → Order
order_of (handed order tolds) = order
order_of (looked order result at) = order
order_of (refused order) = order

-- the replies that are owed then
abbrev pub replies_for : Outcome → List Reply
replies_for (handed order tolds) = replies_to tolds
replies_for (looked order result at) = replies_to (record { unique = order.unique; result = result } ∷ [])
replies_for (refused order) = replies_of (lost (kind_of order.op) order.unique)

-- these, as this author gives them to be sent
abbrev pub entry_for : ℕ → Outcome → ReplyEntry
entry_for author outcome = entry author (replies_for outcome)

-- what the history has of it
abbrev pub answer_of : Outcome → List Answered
answer_of (handed order tolds) = answered order tolds ∷ []
answer_of (looked order result at) = []
answer_of (refused order) = []

-- what the history has of these, one after another
abbrev pub answers : List Outcome → List Answered
answers [] = []
answers (o ∷ os) = answer_of o ++ answers os

-- the order was refused
abbrev pub is_refused : Outcome → Bool
is_refused (handed order tolds) = false
is_refused (looked order result at) = false
is_refused (refused order) = true

-- one of these was refused
abbrev pub some_refused : List Outcome → Bool
some_refused [] = false
some_refused (o ∷ os) = is_refused o || some_refused os

-- What an order that only reads is answered after a history.
abbrev pub Shows : Type 1
Shows = List Line → Order → Result Answer Errno → Type 0

-- Each order that was handed in stands in the history, with its replies, behind all that this worker handed in and was
-- shown before. Each that was looked for only reads, and is answered after a history that begins with all this, and has
-- all that was handed in before, with its replies. The first begins with `from`, the last begins `to`, and `had` was
-- handed in before the first of these.
abbrev pub AreInTurn : Shows → ℕ → List Line → List Answered → List Outcome → List Line → Type 0
AreInTurn shows worker from had [] to = IsPrefix from to
AreInTurn shows worker from had (handed order tolds ∷ os) to =
    (before : List Line) × IsPrefix from before
    × AreInTurn shows worker (before ++ step_lines worker order tolds) (had ++ answered order tolds ∷ []) os to
AreInTurn shows worker from had (looked order result at ∷ os) to =
    (only_reads order.op ≡ true) × IsPrefix from at × Sublistᴰ had (answered_by worker at) × shows at order result
    × AreInTurn shows worker at had os to
AreInTurn shows worker from had (refused order ∷ os) to = AreInTurn shows worker from had os to

-- Where a worker stands: its number, how many orders were handed in at its seat, those of the history up to the last
-- of them with their replies, the longest history that was shown there or that ends with one of them, a beginning of
-- the history whose lines are stored, and what was given to be sent.
pub record Standing : Type 0 where
  pub worker : ℕ
  pub count : ℕ
  pub answered : List Answered
  pub front : List Line
  pub stored : List Line
  pub sent : Appended ReplyEntry

-- the same of a seat, of which these tell
abbrev pub standing : {S : Type 0} → (S → ℕ) → (S → ℕ) → (S → List Answered) → (S → List Line) → (S → List Line) → S
    → Appended ReplyEntry → Standing
standing worker count answered front stored seat sent =
    record {
      worker = worker seat;
      count = count seat;
      answered = answered seat;
      front = front seat;
      stored = stored seat;
      sent = sent;
    }

-- All that the worker handed in, each order with its replies, is in the lines that are stored.
abbrev pub AreStored : Standing → Type 0
AreStored it = answered_by it.worker it.stored ≡ it.answered

-- At one seat these orders were handed in, looked for or refused, one after another. Those that were handed in are
-- counted, and answered in this order with the replies that are given to be sent, and their lines are stored. `any`
-- tells if one was refused. What is owed for each order was given to be sent, in this order, and nothing else; some may
-- lack if something was lost on the way to the sender.
pub record HasWorked (shows : Shows) (orders : Orders) (old new : Standing) (any lost : Bool) : Type 0 where
  pub outcomes : List Outcome
  pub are : orders ≡ map order_of outcomes
  pub worker : new.worker ≡ old.worker
  pub handed : Grows old.answered new.answered old.count new.count (answers outcomes)
  pub shown : (had : List Answered) → Sublistᴰ had old.answered
      → AreInTurn shows old.worker old.front had outcomes new.front
  pub stored : AreStored old → AreStored new
  pub refused : any ≡ some_refused outcomes
  pub sent : HasSent (map (entry_for old.sent.author) outcomes) old.sent new.sent lost

-- an end took some orders more, and this was done with them
pub record HasDone (shows : Shows) (taken taken_now : Orders) (old new : Standing) (any lost : Bool) : Type 0 where
  pub took : Orders
  pub is : taken_now ≡ taken ++ took
  pub worked : HasWorked shows took old new any lost
