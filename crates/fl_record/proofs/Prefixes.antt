-- Lists that begin with others.
use Rattle.std.proofs.Common.{◌≡◌, List, [], ◌++◌, ap, sym, ◌∙◌, append_assoc}
use Rattle.std.proofs.lemmas.List.{append-nil}
use mathlib.Core.List.{IsPrefix}

module _ {X : Type 0} where
  pub of_itself : (xs ys : List X) → ys ≡ xs → IsPrefix xs ys
  of_itself xs ys same = ([], append-nil xs ∙ sym same)

  pub of_another : (xs ys zs : List X) → IsPrefix xs ys → IsPrefix ys zs → IsPrefix xs zs
  of_another xs ys zs p q = (p.0 ++ q.0, sym (append_assoc xs p.0 q.0) ∙ ap (λ l. l ++ q.0) p.1 ∙ q.1)
