-- The longest of some texts.
use Rattle.std.proofs.Common.{◌≡◌, ℕ, ◌+◌, ◌<◌, max, List, [], ◌∷◌, ◌++◌, length, map, take, get_or, sym, ap, ◌∙◌, arith}
use Rattle.std.proofs.lemmas.List.{take_more}
use Rattle.fl_locks.specs.Table.{longest}

longest_push : {A : Type 0} (f : A → List ℕ) (xs : List A) (x : A) → longest (map f (xs ++ x ∷ [])) ≡ max (longest (map f xs)) (length (f x))
longest_push f [] x = omega arith
longest_push f (y ∷ ys) x = omega (arith, longest_push f ys x)

-- one text more
pub longest_more : {A : Type 0} (f : A → List ℕ) (xs : List A) (i : ℕ) (x : A) → i < length xs → x ≡ get_or xs i x
    → longest (map f (take (i + 1) xs)) ≡ max (longest (map f (take i xs))) (length (f x))
longest_more f xs i x within is =
    ap (λ (ys : List _). longest (map f ys)) (take_more xs i x within ∙ ap (λ item. take i xs ++ item ∷ []) (sym is)) ∙ longest_push f (take i xs) x
