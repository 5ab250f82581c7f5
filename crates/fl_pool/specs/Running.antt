-- How a session ran.
use Rattle.std.specs.Prelude.{◌≡◌, ◌≢◌, ℕ, ◌+◌, ◌<◌, Bool, false, List, [], ◌∷◌, ◌++◌, ◌||◌, All, Option}
use Rattle.std.specs.Prelude.{None, Some, length, map, sum_by, vec_capacity}
use Rattle.atomic_table.specs.Seated.{TableId}
use Rattle.fl_counter.specs.Asked.{Orders}
use Rattle.fl_intake.specs.Ends.{PutSide, TakeSide, weight_taken}
use Rattle.fl_intake.specs.Often.{Weight}
use Rattle.fl_log.specs.Appended.{Appended}
use Rattle.fl_pool.specs.Working.{HaveDone, IsFresh, IsIdle, Reading, standing_at}
use Rattle.fl_pool.specs.declared.crew.Back.{Back}
use Rattle.fl_pool.specs.declared.crew.Worker.{Worker}
use Rattle.fl_pool.specs.declared.pool.Ran.{Ran}
use Rattle.fl_transport.specs.Inbox.{Inflow, IsUnread}
use Rattle.fl_transport.specs.declared.fault.Fault.TheVariants.{NoMemory}
use Rattle.fl_workers.specs.Dispatched.{Inline}
use Rattle.fl_workers.specs.Received.{HasReceived, Reception}
use Rattle.fl_workers.specs.Room.{HasBatchFor}
use Rattle.fl_workers.specs.Worked.{Shows}
use Rattle.fl_workers.specs.declared.entry.ReplyEntry.{ReplyEntry}
use Rattle.fl_workers.specs.declared.receiver.Received.{Received}

-- Workers can run with these: nothing was read, and nothing was put into this intake.
pub record CanRun (of : TableId) (inbox : Inflow) (put : PutSide) : Type 0 where
  pub unread : IsUnread inbox
  pub unused : (put.of ≡ of) × (put.closed ≡ false) × (put.put ≡ [])

-- A worker can begin: nothing was done at its seat, its end is this intake's and took nothing, and it has room for a
-- batch in which an order has at most so many replies.
pub record IsReady {C N S : Type 0} (r : Reading S) (most : ℕ) (of : TableId) (worker : Worker C N S) : Type 0 where
  pub idle : IsIdle r worker.post.seat worker.post.own
  pub end : IsFresh of worker.end
  pub room : HasBatchFor most worker.room

-- how a receiver went, by what was left of its reader and is left now, what it had given to be sent, the orders that it
-- dispatched, and how it ended
abbrev pub reception_of : {N : Type 0} → Option (List ℕ) → Option (List ℕ) → Appended ReplyEntry → Orders → Received N
    → Reception
reception_of left left_now sent orders received =
    record {
      left = left;
      left_now = left_now;
      fault = received.fault;
      orders = orders;
      goodbye = received.goodbye;
      sent = sent;
      sent_now = received.own;
      lost = received.lost;
    }

-- one worker more came back, with this seat, this appender and this end, and this went wrong with its orders
pub record HasAdded {C N S : Type 0} (old new : Back C N S) (seat : S) (sent : Appended ReplyEntry) (end : TakeSide)
    (any gone : Bool) : Type 0 where
  pub seats : new.seats.items ≡ old.seats.items ++ seat ∷ []
  pub appenders : new.appenders.items ≡ old.appenders.items ++ sent ∷ []
  pub ends : new.ends.items ≡ old.ends.items ++ end ∷ []
  pub refused : new.failures.refused ≡ (old.failures.refused || any)
  pub lost : new.failures.lost ≡ (old.failures.lost || gone)
  pub room : (vec_capacity new.seats ≡ vec_capacity old.seats) × (vec_capacity new.appenders ≡ vec_capacity old.appenders)
      × (vec_capacity new.ends ≡ vec_capacity old.ends)

-- the same of the worker in the reader's thread, if there is one
abbrev pub HasAddedIf : {C N S : Type 0} → Reading S → Back C N S → Option Inline → Back C N S → Type 0
HasAddedIf r old None new = new ≡ old
HasAddedIf r old (Some worker) new = (seat : _) × (sent : Appended ReplyEntry)
    × (standing_at r seat sent ≡ worker.standing) × HasAdded old new seat sent worker.end worker.refused worker.lost

-- this worker is the one in the reader's thread, and got no order yet
abbrev pub IsInline : {C N S : Type 0} → Reading S → Option (Worker C N S) → Option Inline → Type 0
IsInline r None None = Unit {0}
IsInline r None (Some inline) = ⊥
IsInline r (Some worker) None = ⊥
IsInline r (Some worker) (Some inline) = (inline.standing ≡ standing_at r worker.post.seat worker.post.own)
    × (inline.end ≡ worker.end) × (inline.waiting ≡ []) × (inline.refused ≡ false) × (inline.lost ≡ false)

-- These workers came back, in this order, each with its seat, its appender and its end of this intake. There is room
-- for one appender more.
pub record HaveComeBack {C N S : Type 0} (r : Reading S) (of : TableId) (workers : List ℕ) (back : Back C N S) : Type 0 where
  pub whose : map r.worker back.seats.items ≡ workers
  pub pairs : (length back.appenders.items ≡ length workers) × (length back.ends.items ≡ length workers)
  pub ends : All (λ end. end.of ≡ of) back.ends.items
  pub room : length back.appenders.items < vec_capacity back.appenders

-- what workers worked on, weighed: these orders in the reader's thread, and those that their ends took
abbrev pub weight_worked : {C N S : Type 0} → Orders → Back C N S → Weight → ℕ
weight_worked inline back weight = sum_by weight inline + weight_taken weight back.ends.items

-- these workers came back, and worked on these orders in the reader's thread, and on those that their ends took
pub record HaveWorked {C N S : Type 0} (r : Reading S) (shows : Shows) (of : TableId) (workers : List ℕ) (inline : Orders)
    (back : Back C N S) : Type 0 where
  pub came : HaveComeBack r of workers back
  pub did : HaveDone r shows (weight_worked inline back) back.seats.items back.appenders.items back.failures.refused
      back.failures.lost

-- A session ran with these workers: what it received, and what they worked on. Each order was put into the intake, or
-- is one of the orders of the reader's thread.
pub record HasRun {C N S : Type 0} (r : Reading S) (shows : Shows) (of : TableId) (put : PutSide) (workers : List ℕ)
    (left left_now : Option (List ℕ)) (sent : Appended ReplyEntry) (ran : Ran C N S) : Type 0 where
  pub same : (ran.received.put.of ≡ of) × (ran.received.put.takers ≡ put.takers)
  pub orders : Orders
  pub inline : Orders
  pub shared : (weight : Weight) → sum_by weight orders ≡ sum_by weight ran.received.put.put + sum_by weight inline
  pub worked : HaveWorked r shows of workers inline ran.back
  pub received : HasReceived (reception_of left left_now sent orders ran.received)
  pub memory : ran.received.fault ≢ Some NoMemory
