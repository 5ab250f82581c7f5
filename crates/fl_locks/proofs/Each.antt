-- What holds of each item of a list.
use Rattle.std.proofs.Common.{◌≡◌, Bool, false, cond, List, [], ◌∷◌, ap, ◌∙◌, refl}
use Rattle.std.specs.List.{filter, AllByRecursion}

module _ {X : Type 0} where
  pub all_weaker : (P Q : X → Type 0) → ((x : X) → P x → Q x) → (xs : List X) → AllByRecursion P xs → AllByRecursion Q xs
  all_weaker P Q weaker [] each = tt
  all_weaker P Q weaker (x ∷ xs) each = (weaker x each.0, all_weaker P Q weaker xs each.1)

  -- if none passes a test, none is kept
  pub filter_none : (p : X → Bool) (xs : List X) → AllByRecursion (λ x. p x ≡ false) xs → filter p xs ≡ []
  filter_none p [] each = refl
  filter_none p (x ∷ xs) each = ap (λ (b : Bool). cond b (x ∷ filter p xs) (filter p xs)) each.0 ∙ filter_none p xs each.1
