-- All runs of rows, gathered in a walk along each row of each chain.
use Rattle.std.proofs.Common.{◌≡◌, ℕ, zero, suc, ◌+◌, ◌<◌, Some, None, List, [], ◌∷◌, ◌++◌, map, length, take, drop, get_or}
use Rattle.std.proofs.Common.{slice_get, refl, ap, sym, ◌∙◌, arith, append_assoc}
use Rattle.std.proofs.lemmas.List.{append-nil, take_more}
use Rattle.std.proofs.lemmas.List.Concat.{flat_map-append}
use Rattle.std.proofs.lemmas.Option.{none-some}
use Rattle.std.specs.List.{flat_map}
use Rattle.fl_spans.specs.Rows.{keys, runs_at}
use Rattle.fl_marks.specs.declared.lock.Key.{Key}
use Rattle.fl_ranges.specs.Inside.LockRows.{LockRow}
use Rattle.fl_ranges.proofs.Each.{drop_here}

-- ---- a walk, of which each item adds to what was gathered

module _ {X : Type 0} where
  past_end : (xs : List X) (j : ℕ) → slice_get xs j ≡ None → drop j xs ≡ []
  past_end [] zero none = refl
  past_end [] (suc j) none = refl
  past_end (x ∷ xs) zero none = absurd (cc none)
  past_end (x ∷ xs) (suc j) none = past_end xs j none

module _ {X Y : Type 0} where
  -- one item of a row
  pub one_more : (f : X → Y) (xs : List X) (j next : ℕ) (x : X) (old new : List Y) → slice_get xs j ≡ Some x → next ≡ j + 1 → new ≡ old ++ f x ∷ [] →
      new ++ map f (drop next xs) ≡ old ++ map f (drop j xs)
  one_more f xs j next x old new found is gives =
      (λ i. gives i ++ map f (drop (is i) xs))
      ∙ append_assoc old (f x ∷ []) (map f (drop (j + 1) xs))
      ∙ ap (λ (ys : List X). old ++ map f ys) (sym (drop_here xs j x found))

  pub row_done : (f : X → Y) (xs : List X) (j : ℕ) (got all : List Y) → slice_get xs j ≡ None → got ++ map f (drop j xs) ≡ all → got ≡ all
  row_done f xs j got all none is = sym (append-nil got) ∙ ap (λ (ys : List X). got ++ map f ys) (sym (past_end xs j none)) ∙ is

  -- one row of a chain
  pub row_more : (f : X → List Y) (xs : List X) (j next : ℕ) (x : X) (old new : List Y) → drop j xs ≡ x ∷ drop (j + 1) xs → next ≡ j + 1 → new ≡ old ++ f x →
      new ++ flat_map f (drop next xs) ≡ old ++ flat_map f (drop j xs)
  row_more f xs j next x old new here is gives =
      (λ i. gives i ++ flat_map f (drop (is i) xs))
      ∙ append_assoc old (f x) (flat_map f (drop (j + 1) xs))
      ∙ ap (λ (ys : List X). old ++ flat_map f ys) (sym here)

  pub chain_done : (f : X → List Y) (xs : List X) (j : ℕ) (got all : List Y) → drop j xs ≡ [] → got ++ flat_map f (drop j xs) ≡ all → got ≡ all
  chain_done f xs j got all end is = sym (append-nil got) ∙ ap (λ (ys : List X). got ++ flat_map f ys) (sym end) ∙ is

  -- one chain of all
  pub chain_more : (f : X → List Y) (xs : List X) (c : ℕ) (d : X) (old new : List Y) → c < length xs → old ≡ flat_map f (take c xs) →
      new ≡ old ++ f (get_or xs c d) → new ≡ flat_map f (take (c + 1) xs)
  chain_more f xs c d old new below is gives =
      gives
      ∙ (λ i. is i ++ sym (append-nil (f (get_or xs c d))) i)
      ∙ sym (flat_map-append f (take c xs) (get_or xs c d ∷ []))
      ∙ ap (flat_map f) (sym (take_more xs c d below))

-- ---- a row of a chain

pub row_at : (rs : List LockRow) (j : ℕ) (key : Key) → slice_get (keys rs) j ≡ Some key →
    drop j rs ≡ record { key = key; runs = runs_at rs j } ∷ drop (j + 1) rs
row_at [] j key found = absurd (none-some key found)
row_at (r ∷ rs) zero key found = let is : r.key ≡ key = cc in λ i. record { key = is i; runs = r.runs } ∷ rs
row_at (r ∷ rs) (suc j) key found =
    let next : suc j + 1 ≡ suc (j + 1) = omega arith in
    row_at rs j key found ∙ ap (λ (n : ℕ). record { key = key; runs = runs_at rs j } ∷ drop n (r ∷ rs)) (sym next)
