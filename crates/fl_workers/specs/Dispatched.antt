-- Where the receiver's orders went: to the intake, or to the inline worker, which works in the receiver's thread.
use Rattle.std.specs.Prelude.{◌≡◌, ℕ, ◌⊎◌, Bool, [], ◌∷◌, ◌++◌, Option, None, Some}
use Rattle.fl_counter.specs.Asked.{Orders}
use Rattle.fl_intake.specs.Ends.{TakeSide}
use Rattle.fl_workers.specs.Worked.{HasWorked, Shows, Standing}

-- A worker in the receiver's thread: where it stands, its end of the intake, the orders that wait for it, how many may,
-- and whether one of those before was refused, or what is owed for one was lost.
pub record Inline : Type 0 where
  pub standing : Standing
  pub end : TakeSide
  pub waiting : Orders
  pub places : ℕ
  pub refused : Bool
  pub lost : Bool

-- Since a worker began, it got these orders: it worked on the first of them, and the others wait. It took none through
-- its end of the intake.
pub record HasGot (shows : Shows) (first now : Inline) (orders : Orders) : Type 0 where
  pub end : now.end ≡ first.end
  pub handled : Orders
  pub are : orders ≡ handled ++ now.waiting
  pub worked : HasWorked shows handled first.standing now.standing now.refused now.lost

-- whatever a worker got before, it has these orders more now
pub record HandlesMore (shows : Shows) (old new : Inline) (more : Orders) : Type 0 where
  pub got : (first : Inline) (orders : Orders) → HasGot shows first old orders → HasGot shows first new (orders ++ more)

-- the same of a receiver that may have no worker in its thread: without one, nobody got an order there
abbrev pub HasGotIf : Shows → Option Inline → Option Inline → Orders → Type 0
HasGotIf shows None None orders = orders ≡ []
HasGotIf shows None (Some now) orders = ⊥
HasGotIf shows (Some first) None orders = ⊥
HasGotIf shows (Some first) (Some now) orders = HasGot shows first now orders

-- Orders are those of two lists, each of which keeps its order.
abbrev pub AreMerged : Orders → Orders → Orders → Type 0
AreMerged xs ys [] = (xs ≡ []) × (ys ≡ [])
AreMerged xs ys (z ∷ zs) = ((rest : Orders) × (xs ≡ z ∷ rest) × AreMerged rest ys zs)
    ⊎ ((rest : Orders) × (ys ≡ z ∷ rest) × AreMerged xs rest zs)

-- Each of these orders was put into the intake, or a worker in the receiver's thread got it. Both have theirs in the
-- order in which they came.
pub record AreDispatched (shows : Shows) (first : Option Inline) (put : Orders) (now : Option Inline) (orders : Orders)
    : Type 0 where
  pub got : Orders
  pub there : HasGotIf shows first now got
  pub merged : AreMerged put got orders

-- whatever was dispatched before, these orders more are now
pub record DispatchesMore (shows : Shows) (put : Orders) (old : Option Inline) (put_now : Orders) (new : Option Inline)
    (more : Orders) : Type 0 where
  pub dispatched : (first : Option Inline) (orders : Orders) → AreDispatched shows first put old orders
      → AreDispatched shows first put_now new (orders ++ more)
