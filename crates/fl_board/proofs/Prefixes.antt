-- Lists that begin with others.
use Rattle.std.proofs.Common.{◌≡◌, ◌≤◌, List, [], ◌++◌, All, length, length-append, ap, sym, ◌∙◌, append_assoc, arith}
use Rattle.std.proofs.lemmas.List.{append-nil}
use mathlib.Core.List.{IsPrefix}

module _ {X : Type 0} where
  pub of_itself : (xs ys : List X) → ys ≡ xs → IsPrefix xs ys
  of_itself xs ys same = ([], append-nil xs ∙ sym same)

  pub of_another : (xs ys zs : List X) → IsPrefix xs ys → IsPrefix ys zs → IsPrefix xs zs
  of_another xs ys zs p q = (p.0 ++ q.0, sym (append_assoc xs p.0 q.0) ∙ ap (λ l. l ++ q.0) p.1 ∙ q.1)

  -- what begins a list begins each that goes on
  pub all_of_another : {P : Type 0} (front_in : P → List X) (places : List P) (ys zs : List X)
      → All (λ p. IsPrefix (front_in p) ys) places → IsPrefix ys zs → All (λ p. IsPrefix (front_in p) zs) places
  all_of_another front_in places ys zs all q = λ k d short. of_another _ _ _ (all k d short) q

  -- a list has as many items as its beginning at least
  pub no_longer : (xs ys : List X) → IsPrefix xs ys → length xs ≤ length ys
  no_longer xs ys p = omega (arith, sym (ap length p.1) ∙ length-append xs p.0)
