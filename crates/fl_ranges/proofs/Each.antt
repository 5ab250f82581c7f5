-- What holds of each item of a list, and what stands from an index on.
use Rattle.std.proofs.Common.{◌≡◌, ℕ, zero, suc, ◌+◌, List, [], ◌∷◌, ◌++◌, drop, Some, slice_get, ap}
use Rattle.std.proofs.lemmas.Option.{none-some}
use Rattle.std.proofs.Math.Numerals.{add-one}
use Rattle.std.specs.List.{AllByRecursion}

module _ {X : Type 0} where
  pub all_weaker : (P Q : X → Type 0) → ((x : X) → P x → Q x) → (xs : List X) → AllByRecursion P xs → AllByRecursion Q xs
  all_weaker P Q weaker [] each = tt
  all_weaker P Q weaker (x ∷ xs) each = (weaker x each.0, all_weaker P Q weaker xs each.1)

  pub all_both : (P Q : X → Type 0) (xs : List X) → AllByRecursion P xs → AllByRecursion Q xs → AllByRecursion (λ x. P x × Q x) xs
  all_both P Q [] a b = tt
  all_both P Q (x ∷ xs) a b = ((a.0, b.0), all_both P Q xs a.1 b.1)

  pub all_append : (P : X → Type 0) (xs ys : List X) → AllByRecursion P xs → AllByRecursion P ys → AllByRecursion P (xs ++ ys)
  all_append P [] ys a b = b
  all_append P (x ∷ xs) ys a b = (a.0, all_append P xs ys a.1 b)

  from_here : (xs : List X) (i : ℕ) (x : X) → slice_get xs i ≡ Some x → drop i xs ≡ x ∷ drop (suc i) xs
  from_here [] i x found = absurd (none-some x found)
  from_here (y ∷ xs) zero x found = let same : y ≡ x = cc in ap (λ (z : X). z ∷ xs) same
  from_here (y ∷ xs) (suc i) x found = from_here xs i x found

  -- the items from an index on, if one stands there
  pub drop_here : (xs : List X) (i : ℕ) (x : X) → slice_get xs i ≡ Some x → drop i xs ≡ x ∷ drop (i + 1) xs
  drop_here xs i x found = rw add-one (from_here xs i x found)
