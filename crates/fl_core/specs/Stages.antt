-- In which stages an order changes who waits for whom: its own change of locks, or it waits; then requests leave, or
-- are granted, one after another.
use Rattle.std.specs.Prelude.{◌≡◌, ◌≢◌, ℕ, Bool, true, not, ◌&&◌, nat_lt, Option, Some, None, option_map, List, [], ◌∷◌}
use Rattle.std.specs.Prelude.{◌++◌}
use Rattle.std.specs.Prelude.{if◌then◌else◌}
use Rattle.std.specs.List.{filter}
use Rattle.fl_waiting.specs.Circle.{Waiter, blocks, ClosesCircle}
use Rattle.fl_waiting.specs.LockRequest.{is_flock}
use Rattle.fl_core.specs.Settling.{Present}
use Rattle.fl_waiting.specs.Waiting.{owner_of, wish_of}
use Rattle.fl_waiting.specs.declared.parked.Request.{Request}
use Rattle.fl_waiting.specs.declared.rules.Rules.{Rules}
use Rattle.fl_order.specs.declared.order.LockAsk.{LockAsk}
use Rattle.fl_order.specs.declared.order.Op.{Op}
use Rattle.fl_order.specs.declared.order.Op.TheVariants.{Setlk, Setlkw}
use Rattle.fl_order.specs.declared.order.Order.{Order}
use Rattle.fl_marks.specs.Marking.{Marking}

-- a record lock is asked for, of type read or write, whatever the answer is
abbrev pub asks_record_lock : LockAsk → Bool
asks_record_lock ask = not (is_flock ask) && nat_lt ask.kind 2

-- the owner who asks so, if it is asked so
abbrev pub asker_of : LockAsk → Option ℕ
asker_of ask = if asks_record_lock ask then Some ask.owner else None

-- the owner who asks for a record lock by SETLK or SETLKW, if the order does
abbrev pub asked_by : Op → Option ℕ
asked_by (Setlk ask) = asker_of ask
asked_by (Setlkw ask) = asker_of ask
asked_by op = None

-- the owner whose record lock a request wants; none if it wants another lock
abbrev pub wanted_by : Request → Option ℕ
wanted_by r = option_map owner_of (wish_of r)

-- no owner blocks a waiter afterwards who didn't before, but for this one, if one is named
abbrev pub GainsAtMost : Rules → Option ℕ → Marking → Marking → Type 0
GainsAtMost rules gainer before after =
    (w : Waiter) (owner : ℕ) → gainer ≢ Some owner → blocks rules after w owner ≡ true
    → blocks rules before w owner ≡ true

-- The order's own change: nobody gains but the owner who asks for a record lock, and the same requests are parked. Or
-- a request of that owner is parked behind the others, for a lock that it asks for, or one of the whole file; it
-- closes no circle, and the locks stay.
pub data OwnStage (rules : Rules) (order : Order) (before after : Present) : Type 0 where
  changes : GainsAtMost rules (asked_by order.op) before.marking after.marking → after.parked ≡ before.parked
      → OwnStage rules order before after
  parks : (r : Request) → wanted_by r ≡ asked_by order.op → (ClosesCircle rules before.marking before.parked r → ⊥)
      → after.marking ≡ before.marking → after.parked ≡ before.parked ++ r ∷ [] → OwnStage rules order before after

-- Parked requests leave, all but those that pass a test, and the locks stay. Or one is granted: it leaves, and nobody
-- gains but the owner whose record lock it wanted.
pub data LaterStage (rules : Rules) (before after : Present) : Type 0 where
  leave : (stays : Request → Bool) → after.marking ≡ before.marking → after.parked ≡ filter stays before.parked
      → LaterStage rules before after
  granted : (older : List Request) (r : Request) (younger : List Request) → before.parked ≡ older ++ r ∷ younger
      → after.parked ≡ older ++ younger → GainsAtMost rules (wanted_by r) before.marking after.marking
      → LaterStage rules before after

-- such stages, one after another
pub data AreLater (rules : Rules) : Present → Present → Type 0 where
  none : {s : Present} → AreLater rules s s
  more : {before between after : Present} → LaterStage rules before between → AreLater rules between after
      → AreLater rules before after

-- an order is taken: first its own stage, and then the others
pub record IsTakenInStages (rules : Rules) (order : Order) (before after : Present) : Type 0 where
  pub between : Present
  pub own : OwnStage rules order before between
  pub later : AreLater rules between after
