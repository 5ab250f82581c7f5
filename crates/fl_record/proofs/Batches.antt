-- A batch of orders that was handed in.
use Rattle.std.proofs.Common.{◌≡◌, ◌<◌, List, [], ◌∷◌, ◌++◌, length, refl, ap, sym, ◌∙◌, subst, arith}
use Rattle.std.proofs.Math.ListN.{get_or}
use Rattle.fl_order.specs.declared.order.Order.{Order}
use Rattle.fl_order.specs.declared.told.Told.{Told}
use Rattle.fl_record.specs.Seats.{Place}
use Rattle.fl_record.specs.Shown.{AreHandedIn, IsHandedIn}
use Rattle.fl_waiting.specs.declared.rules.Rules.{Rules}

-- the first order that has no list is handed in, too
pub handed_more : (rules : Rules) (old mid new : Place) (orders : List Order) (lists : List (List Told)) (order : Order)
    (tolds : List Told) → length lists < length orders → get_or orders (length lists) order ≡ order
    → new.worker ≡ mid.worker → IsHandedIn rules mid order tolds new → AreHandedIn rules old orders lists mid
    → AreHandedIn rules old orders (lists ++ tolds ∷ []) new
handed_more rules old mid new [] lists order tolds less is same one so_far = absurd (omega (arith, less))
handed_more rules old mid new (o ∷ orders) [] order tolds less is same one so_far = (
  new,
  same ∙ ap (λ (p : Place). p.worker) so_far,
  subst (λ (p : Place). IsHandedIn rules p o tolds new) so_far
      (subst (λ (it : Order). IsHandedIn rules mid it tolds new) (sym is) one),
  refl,
)
handed_more rules old mid new (o ∷ orders) (ts ∷ lists) order tolds less is same one so_far = (
  so_far.0,
  so_far.1,
  so_far.2,
  handed_more rules so_far.0 mid new orders lists order tolds (omega (arith, less)) is same one so_far.3,
)
