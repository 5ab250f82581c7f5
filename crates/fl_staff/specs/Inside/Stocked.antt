-- What a session has for its workers before its first read.
use Rattle.std.specs.Prelude.{◌≡◌, ℕ, ◌<◌, ◌≤◌, [], All, length, vec_capacity}
use Rattle.fl_pool.specs.Running.{CanRun}
use Rattle.fl_pool.specs.Working.{IsFresh}
use Rattle.fl_pool.specs.declared.crew.Crew.{Crew}
use Rattle.fl_staff.specs.declared.stock.Stock.{Stock}
use Rattle.fl_workers.specs.Room.{HasBatchFor, HasRoomFor}

-- there is room for so many workers, for their threads, and for what they give back and one appender more
abbrev pub HasRoomForAll : {C N S : Type 0} → ℕ → Crew C N S → Type 0
HasRoomForAll workers crew = (workers ≤ vec_capacity crew.workers) × (workers ≤ vec_capacity crew.threads)
    × (workers ≤ vec_capacity crew.back.seats) × (workers < vec_capacity crew.back.appenders)
    × (workers ≤ vec_capacity crew.back.ends)

-- So many workers can run with this stock, once they have seats: nothing was read or put, each has an end of the intake
-- and a room for batches and so many replies to an order, no reply is collected, and there is room for all.
pub record IsStocked {C N S : Type 0} (most workers : ℕ) (stock : Stock C N S) : Type 0 where
  pub can : CanRun stock.intake stock.inbox stock.put
  pub takers : stock.put.takers ≡ workers
  pub fresh : All (IsFresh stock.intake) stock.ends.items
  pub batches : All (HasBatchFor most) stock.rooms.items
  pub enough : (length stock.ends.items ≡ workers) × (length stock.rooms.items ≡ workers)
  pub left : HasRoomFor most stock.left
  pub none : (stock.replies ≡ []) × (stock.crew.workers.items ≡ [])
  pub room : HasRoomForAll workers stock.crew
