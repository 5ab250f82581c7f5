-- The first of a batch.
use Rattle.std.proofs.Common.{◌≡◌, ℕ, ◌+◌, ◌<◌, List, [], ◌∷◌, ◌++◌, take, drop, get_or, length, ap, arith, sym, ◌∙◌}
use Rattle.std.specs.Prelude.{Some, slice_get}
use Rattle.std.proofs.lemmas.List.{drop-take, take-append-drop, take-take, take_more}
use Rattle.std.proofs.lemmas.Option.{get_or_from_slice_get, slice_get_within}

module _ {A : Type 0} where
  -- so many, and then so many more
  pub take_then : (m n : ℕ) (xs : List A) → take (m + n) xs ≡ take m xs ++ take n (drop m xs)
  take_then m n xs =
      sym (take-append-drop m (take (m + n) xs))
      ∙ (λ i. take-take m (m + n) xs (omega arith) i ++ drop-take m n xs i)

  -- so many, and the next
  pub take_next : (xs : List A) (i : ℕ) (x : A) → slice_get xs i ≡ Some x → take (i + 1) xs ≡ take i xs ++ x ∷ []
  take_next xs i x at =
      take_more xs i x (slice_get_within xs i x at)
      ∙ ap (λ y. take i xs ++ y ∷ []) (get_or_from_slice_get xs i x x at)

  -- the same of one that was read
  pub take_read : (xs : List A) (i : ℕ) (x : A) → i < length xs → x ≡ get_or xs i x
      → take (i + 1) xs ≡ take i xs ++ x ∷ []
  take_read xs i x within at = take_more xs i x within ∙ ap (λ y. take i xs ++ y ∷ []) (sym at)

  -- the first alone
  pub take_first : (xs : List A) (x : A) → 0 < length xs → x ≡ get_or xs 0 x → take 1 xs ≡ x ∷ []
  take_first [] x some at = absurd (omega arith)
  take_first (y ∷ ys) x some at = ap (λ z. z ∷ []) (sym at)
