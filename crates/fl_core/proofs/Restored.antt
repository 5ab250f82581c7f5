-- A request that waits again, behind the others.
use Rattle.std.proofs.Common.{◌≡◌, ◌≤◌, ◌+◌, ℕ, Bool, true, false, not, nat_le, List, [], ◌∷◌, ◌++◌, length, length-append}
use Rattle.std.proofs.Common.{refl, arith}
use Rattle.std.proofs.lemmas.Bool.Decides.{nat_tests}
use Rattle.fl_core.specs.Restored.{fits_request}
use Rattle.fl_waiting.specs.LockRequest.{is_malformed}
use Rattle.fl_core.proofs.Alone.{behind_more}
use Rattle.fl_core.proofs.Taken.{apart_more, none_of}
use Rattle.fl_core.proofs.Waits.{both_true}
use Rattle.fl_marks.specs.Marking.{Marking}
use Rattle.fl_waiting.specs.Waiting.{waits, is_parked, AllWait, AreApart}
use Rattle.fl_waiting.specs.declared.parked.Request.{Request}
use Rattle.fl_waiting.specs.declared.rules.Rules.{Rules}

negated : (b : Bool) → not b ≡ true → b ≡ false
negated true e = absurd (cc e)
negated false e = refl

abbrev pub Kept : Rules → Marking → List Request → Type 0
Kept rules m parked = AllWait rules m parked × AreApart parked × (length parked ≤ rules.parked)

pub request_kept : (rules : Rules) (m : Marking) (parked : List Request) (r : Request) → Kept rules m parked → fits_request rules m parked r ≡ true
    → Kept rules m (parked ++ r ∷ [])
request_kept rules m parked r kept ok =
    let shape = both_true (not (is_malformed r.ask)) _ ok in
    let fresh = both_true (not (is_parked r.unique parked)) _ shape.1 in
    let held = both_true (not (nat_le rules.parked (length parked))) _ fresh.1 in (
      behind_more (λ older r. waits rules m older r ≡ true) [] parked r kept.0 held.1,
      apart_more parked r kept.1 (none_of r.unique parked (negated _ fresh.0)),
      few (length parked) rules.parked (length (parked ++ r ∷ [])) (negated _ held.0) (length-append parked (r ∷ [])),
    )
  where
    few : (n most k : ℕ) → nat_le most n ≡ false → k ≡ n + 1 → k ≤ most
    few n most k room is = grind (arith, nat_tests)
