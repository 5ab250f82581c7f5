-- A walk along a row, at an item and at its end.
use Rattle.std.proofs.Common.{◌≡◌, ℕ, zero, suc, ◌+◌, ◌≤◌, Bool, true, false, List, [], ◌∷◌, ◌++◌, length, drop, Option}
use Rattle.std.proofs.Common.{Some, None, slice_get, refl}
use Rattle.std.proofs.Common.{inl, inr, arith}
use Rattle.std.specs.List.{prefix_len}
use Rattle.std.proofs.lemmas.Bool.{cases_Bool}
use Rattle.std.proofs.lemmas.Option.{none-some}
use Rattle.fl_spans.specs.Rows.{spliced}
use Rattle.fl_spans.specs.declared.span.Span.{Span}
use Rattle.fl_spans.specs.declared.change.Change.{Change}
use Rattle.fl_spans.specs.Inside.Walk.{begins_by, absorbed, gathered}

module _ {X : Type 0} where
  -- at an item
  pub drop_here : (xs : List X) (j : ℕ) (x : X) → slice_get xs j ≡ Some x → drop j xs ≡ x ∷ drop (j + 1) xs
  drop_here [] j x found = absurd (none-some x found)
  drop_here (y ∷ xs) zero x found = cc
  drop_here (y ∷ xs) (suc j) x found = let next : suc j + 1 ≡ suc (j + 1) = omega arith in rw next (drop_here xs j x found)

  -- at the end
  pub drop_end : (xs : List X) (j : ℕ) → slice_get xs j ≡ None → drop j xs ≡ []
  drop_end [] zero none = refl
  drop_end [] (suc j) none = refl
  drop_end (x ∷ xs) zero none = absurd (cc none)
  drop_end (x ∷ xs) (suc j) none = drop_end xs j none

  -- a count along a list that passes a test, one further, and when it ends
  pub count_more : (p : X → Bool) (x : X) (xs : List X) → p x ≡ true → prefix_len p (x ∷ xs) ≡ 1 + prefix_len p xs
  count_more p x xs is = rw is refl

  pub count_end : (p : X → Bool) (x : X) (xs : List X) → p x ≡ false → prefix_len p (x ∷ xs) ≡ 0
  count_end p x xs none = rw none refl

  pub count_within : (p : X → Bool) (xs : List X) → prefix_len p xs ≤ length xs
  count_within p [] = omega arith
  count_within p (x ∷ xs) =
      elim (cases_Bool (p x)) [
        | inl is ↦ omega (arith, count_more p x xs is, count_within p xs)
        | inr none ↦ omega (arith, count_end p x xs none)
      ]

  -- two counts, the second from where the first ends
  pub counts_within : (p q : X → Bool) (xs : List X) → prefix_len p xs + prefix_len q (drop (prefix_len p xs) xs) ≤ length xs
  counts_within p q [] = omega arith
  counts_within p q (x ∷ xs) =
      elim (cases_Bool (p x)) [
        | inl is ↦ rw (count_more p x xs is) (more (prefix_len p xs) (counts_within p q xs))
        | inr none ↦ rw (count_end p x xs none) (omega (arith, count_within q (x ∷ xs)))
      ]
    where
      more : (n : ℕ) → n + prefix_len q (drop n xs) ≤ length xs → 1 + n + prefix_len q (drop (1 + n) (x ∷ xs)) ≤ length (x ∷ xs)
      more n less = let next : 1 + n ≡ suc n = omega arith in rw next (omega (arith, less))

  long_drop : (xs : List X) (k : ℕ) → k ≤ length xs → length (drop k xs) + k ≡ length xs
  long_drop xs zero within = omega arith
  long_drop [] (suc k) within = absurd (omega (arith, within))
  long_drop (x ∷ xs) (suc k) within = omega (arith, long_drop xs k (omega (arith, within)))

  long_both : (xs ys : List X) → length (xs ++ ys) ≡ length xs + length ys
  long_both [] ys = omega arith
  long_both (x ∷ xs) ys = omega (arith, long_both xs ys)

  -- how many there are once some were taken out, and others put in
  pub long_spliced : (xs : List X) (i t : ℕ) (ys : List X) → i + t ≤ length xs → length (spliced xs i t ys) + t ≡ length xs + length ys
  long_spliced xs zero t ys within =
      let front : 0 + t ≡ t = omega arith in
      rw front (omega (arith, long_both ys (drop t xs), long_drop xs t (omega (arith, within))))
  long_spliced [] (suc i) t ys within = absurd (omega (arith, within))
  long_spliced (x ∷ xs) (suc i) t ys within =
      let next : suc i + t ≡ suc (i + t) = omega arith in
      rw next (omega (arith, long_spliced xs i t ys (omega (arith, within))))

  -- past the first
  pub spliced_more : (x : X) (xs : List X) (i t : ℕ) (ys : List X) → spliced (x ∷ xs) (1 + i) t ys ≡ x ∷ spliced xs i t ys
  spliced_more x xs i t ys =
      let next : 1 + i ≡ suc i = omega arith in
      let both : suc i + t ≡ suc (i + t) = omega arith in
      rw next (rw both refl)

module _ {M : Type 0} (same : M → M → Bool) (start end : ℕ) (mark : Option M) where
  -- what a walk gathers, one span further, and where it ends
  pub gathered_more : (c : Change M) (s : Span M) (ss : List (Span M)) → begins_by same end mark s ≡ true →
      gathered same start end mark c (s ∷ ss) ≡ gathered same start end mark (absorbed same start end mark c s) ss
  gathered_more c s ss is = rw is refl

  pub gathered_end : (c : Change M) (s : Span M) (ss : List (Span M)) → begins_by same end mark s ≡ false → gathered same start end mark c (s ∷ ss) ≡ c
  gathered_end c s ss none = rw none refl
