-- A batch of orders that was handed in.
use Rattle.std.proofs.Common.{◌≡◌, ◌+◌, ◌<◌, ◌≤◌, Bool, true, false, List, [], ◌∷◌, length, refl, ap, sym, ◌∙◌, subst, arith}
use Rattle.fl_counter.specs.Answered.{AreAnsweredLast, IsAnsweredLast, answered_by}
use Rattle.fl_order.specs.declared.order.Order.{Order}
use Rattle.fl_order.specs.declared.told.Told.{Told}
use Rattle.fl_record.specs.Seats.{all_stored}
use Rattle.fl_record.specs.Seats.{Place}
use Rattle.fl_record.specs.Shown.{AreHandedIn, IsHandedIn}
use Rattle.fl_waiting.specs.declared.rules.Rules.{Rules}

-- no more lists than orders
pub no_more_lists : (rules : Rules) (old new : Place) (orders : List Order) (lists : List (List Told))
    → AreHandedIn rules old orders lists new → length lists ≤ length orders
no_more_lists rules old new orders [] handed = omega arith
no_more_lists rules old new [] (ts ∷ lists) handed = absurd handed
no_more_lists rules old new (o ∷ orders) (ts ∷ lists) handed =
    omega (arith, no_more_lists rules handed.0 new orders lists handed.3)

-- the place stays its worker's, and it counts the orders
pub handed_same : (rules : Rules) (old new : Place) (orders : List Order) (lists : List (List Told))
    → AreHandedIn rules old orders lists new
    → (new.worker ≡ old.worker) × (new.count ≡ old.count + length lists)
handed_same rules old new orders [] handed = (
  ap (λ (p : Place). p.worker) handed,
  omega (arith, ap (λ (p : Place). p.count) handed),
)
handed_same rules old new [] (ts ∷ lists) handed = absurd handed
handed_same rules old new (o ∷ orders) (ts ∷ lists) handed =
    let one = handed.2 in
    let rest = handed_same rules handed.0 new orders lists handed.3 in (
      rest.0 ∙ handed.1,
      omega (arith, rest.1, one.count),
    )

-- orders that were handed in at a seat are answered behind all that was handed in there, if each is
pub handed_in_answered : ((rules : Rules) (old new : Place) (order : Order) (tolds : List Told) → new.worker ≡ old.worker
    → IsHandedIn rules old order tolds new
    → IsAnsweredLast (answered_by old.worker old.handed) order tolds (answered_by new.worker new.handed))
    → (rules : Rules) (old new : Place) (orders : List Order) (lists : List (List Told))
    → AreHandedIn rules old orders lists new
    → AreAnsweredLast (answered_by old.worker old.handed) orders lists (answered_by new.worker new.handed)
handed_in_answered law rules old new orders [] handed = ap (λ (p : Place). answered_by p.worker p.handed) handed
handed_in_answered law rules old new [] (ts ∷ lists) handed = absurd handed
handed_in_answered law rules old new (o ∷ orders) (ts ∷ lists) handed = (
  answered_by handed.0.worker handed.0.handed,
  law rules old handed.0 o ts handed.1 handed.2,
  handed_in_answered law rules handed.0 new orders lists handed.3,
)

-- ---- what was handed in is stored, too

pub stored_in : (rules : Rules) (old new : Place) (order : Order) (tolds : List Told) → IsHandedIn rules old order tolds new
    → IsHandedIn rules old order tolds (all_stored new)
stored_in rules old new order tolds one = record {
  before = one.before;
  handed = one.handed;
  legal = one.legal;
  had = one.had;
  answered = one.answered;
  saw = one.saw;
  seen = one.seen;
  count = one.count;
  recorded = one.recorded;
}

-- an order was handed in, and whether it is stored was noted
pub stored_or_not : (rules : Rules) (old mid new : Place) (order : Order) (tolds : List Told) (stored : Bool)
    → (stored ≡ true → new ≡ all_stored mid) → (stored ≡ false → new ≡ mid) → IsHandedIn rules old order tolds mid
    → IsHandedIn rules old order tolds new
stored_or_not rules old mid new order tolds true noted waits one =
    subst (λ (p : Place). IsHandedIn rules old order tolds p) (sym (noted refl)) (stored_in rules old mid order tolds one)
stored_or_not rules old mid new order tolds false noted waits one =
    subst (λ (p : Place). IsHandedIn rules old order tolds p) (sym (waits refl)) one

pub all_stored_in : (rules : Rules) (old new : Place) (orders : List Order) (lists : List (List Told)) → 0 < length lists
    → AreHandedIn rules old orders lists new → AreHandedIn rules old orders lists (all_stored new)
all_stored_in rules old new orders [] some handed = absurd (omega (arith, some))
all_stored_in rules old new [] (ts ∷ lists) some handed = absurd handed
all_stored_in rules old new (o ∷ orders) (ts ∷ []) some handed = (
  all_stored new,
  ap (λ (p : Place). p.worker) handed.3 ∙ handed.1,
  stored_in rules old new o ts (subst (λ (p : Place). IsHandedIn rules old o ts p) (sym handed.3) handed.2),
  refl,
)
all_stored_in rules old new (o ∷ orders) (ts ∷ us ∷ lists) some handed = (
  handed.0,
  handed.1,
  handed.2,
  all_stored_in rules handed.0 new orders (us ∷ lists) (omega arith) handed.3,
)

-- with no list the place is as it was
pub none_handed : (rules : Rules) (old new : Place) (orders : List Order) (lists : List (List Told)) → length lists ≡ 0
    → AreHandedIn rules old orders lists new → new ≡ old
none_handed rules old new orders [] none handed = handed
none_handed rules old new orders (ts ∷ lists) none handed = absurd (omega (arith, none))
