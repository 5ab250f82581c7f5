-- Who has a record request parked, and who waits.
use Rattle.std.proofs.Common.{◌≡◌, ℕ, zero, suc, ◌<◌, Bool, true, false, ◌||◌, ◌==◌, List, [], ◌∷◌, ◌++◌, length}
use Rattle.std.proofs.Common.{get_or, refl, sym, ap, ◌∙◌, arith}
use Rattle.std.proofs.lemmas.Bool.Decides.{nat_tests}
use Rattle.std.specs.List.{list_any}
use Rattle.fl_marks.specs.Marking.{Marking}
use Rattle.fl_waiting.specs.Circle.{Waiter, Waits, waiter_of, waiters, waiters_behind, blocks}
use Rattle.fl_waiting.specs.Waiting.{Wish, owner_of, is_waiting, wishes}
use Rattle.fl_waiting.specs.declared.parked.Request.{Request}
use Rattle.fl_waiting.specs.declared.rules.Rules.{Rules}

-- one of two tests fails if none of them passes
neither : (a b : Bool) → (a || b) ≡ false → (a ≡ false) × (b ≡ false)
neither true b none = absurd (cc none)
neither false b none = (refl, none)

same : (x y : ℕ) → x ≡ y → (x == y) ≡ true
same x y e = grind (arith, nat_tests, e)

-- no wish of an owner among them stands at any place
not_among : (older ws : List Wish) (owner : ℕ) → list_any (λ (w : Wish). owner_of w == owner) ws ≡ false
    → (i : ℕ) (w : Waiter) → i < length (waiters_behind older ws) → get_or (waiters_behind older ws) i w ≡ w → waiter_of w ≡ owner → ⊥
not_among older [] owner none i w below at of = absurd (omega (arith, below))
not_among older (v ∷ ws) owner none zero w below at of =
    cc (sym (neither (owner_of v == owner) _ none).0 ∙ same (owner_of v) owner (ap waiter_of at ∙ of))
not_among older (v ∷ ws) owner none (suc i) w below at of =
    not_among (older ++ v ∷ []) ws owner (neither (owner_of v == owner) _ none).1 i w (omega (arith, below)) at of

pub waits_for_nobody : (rules : Rules) (m : Marking) (parked : List Request) (owner q : ℕ) → is_waiting owner parked ≡ false
    → Waits waiter_of (blocks rules m) (waiters parked) owner q → ⊥
waits_for_nobody rules m parked owner q none waits =
    not_among [] (wishes parked) owner none waits.among.0 waits.request waits.among.1 waits.among.2 waits.of
