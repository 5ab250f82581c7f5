-- Walks, of which each item adds to what is told.
use Rattle.std.proofs.Common.{◌≡◌, ℕ, zero, suc, ◌+◌, ◌<◌, ◌≤◌, Some, None, List, [], ◌∷◌, ◌++◌, map, length, drop, slice_get, slice_index_or}
use Rattle.std.proofs.Common.{refl, ap, sym, ◌∙◌, arith, append_assoc, append-nil}
use Rattle.std.proofs.lemmas.List.{map-append}
use Rattle.std.proofs.lemmas.Option.{none-some}
use Rattle.std.specs.List.{flat_map}
use Rattle.fl_marks.specs.declared.lock.Key.{Key}
use Rattle.fl_marks.specs.declared.lock.Mark.{Mark}
use Rattle.fl_spans.specs.Rows.{Row, keys, runs_at}
use Rattle.fl_spans.specs.declared.span.Span.{Span}

module _ {X : Type 0} where
  pub past_end : (xs : List X) (j : ℕ) → slice_get xs j ≡ None → drop j xs ≡ []
  past_end [] zero none = refl
  past_end [] (suc j) none = refl
  past_end (x ∷ xs) zero none = absurd (cc none)
  past_end (x ∷ xs) (suc j) none = past_end xs j none

  pub drop_here : (xs : List X) (j : ℕ) (x : X) → slice_get xs j ≡ Some x → drop j xs ≡ x ∷ drop (j + 1) xs
  drop_here [] j x found = absurd (none-some x found)
  drop_here (y ∷ xs) zero x found = let is : y ≡ x = cc found in ap (λ z. z ∷ xs) is
  drop_here (y ∷ xs) (suc j) x found =
      let next : suc j + 1 ≡ suc (j + 1) = omega arith in
      drop_here xs j x found ∙ ap (λ (n : ℕ). x ∷ drop n (y ∷ xs)) (sym next)

  pub drop_at : (xs : List X) (j : ℕ) (d : X) → j < length xs → drop j xs ≡ slice_index_or xs j d ∷ drop (j + 1) xs
  drop_at [] j d below = absurd (omega (arith, below))
  drop_at (x ∷ xs) zero d below = refl
  drop_at (x ∷ xs) (suc j) d below =
      let next : suc j + 1 ≡ suc (j + 1) = omega arith in
      drop_at xs j d (omega (arith, below)) ∙ ap (λ (n : ℕ). slice_index_or xs j d ∷ drop n (x ∷ xs)) (sym next)

  pub drop_all : (xs : List X) (j : ℕ) → length xs ≤ j → drop j xs ≡ []
  drop_all [] zero h = refl
  drop_all [] (suc j) h = refl
  drop_all (x ∷ xs) zero h = absurd (omega (arith, h))
  drop_all (x ∷ xs) (suc j) h = drop_all xs j (omega (arith, h))

module _ {X Y : Type 0} where
  -- one item more
  pub one_more : (f : X → Y) (xs : List X) (j next : ℕ) (x : X) (old new : List Y) → slice_get xs j ≡ Some x → next ≡ j + 1 → new ≡ old ++ f x ∷ [] →
      new ++ map f (drop next xs) ≡ old ++ map f (drop j xs)
  one_more f xs j next x old new found is gives =
      (λ i. gives i ++ map f (drop (is i) xs))
      ∙ append_assoc old (f x ∷ []) (map f (drop (j + 1) xs))
      ∙ ap (λ (ys : List X). old ++ map f ys) (sym (drop_here xs j x found))

  pub all_done : (f : X → Y) (xs : List X) (j : ℕ) (got all : List Y) → slice_get xs j ≡ None → got ++ map f (drop j xs) ≡ all → got ≡ all
  all_done f xs j got all none is = sym (append-nil got) ∙ ap (λ (ys : List X). got ++ map f ys) (sym (past_end xs j none)) ∙ is

  -- one list of items more
  pub some_more : (f : X → List Y) (xs : List X) (j next : ℕ) (x : X) (old new : List Y) → drop j xs ≡ x ∷ drop (j + 1) xs → next ≡ j + 1 → new ≡ old ++ f x →
      new ++ flat_map f (drop next xs) ≡ old ++ flat_map f (drop j xs)
  some_more f xs j next x old new here is gives =
      (λ i. gives i ++ flat_map f (drop (is i) xs))
      ∙ append_assoc old (f x) (flat_map f (drop (j + 1) xs))
      ∙ ap (λ (ys : List X). old ++ flat_map f ys) (sym here)

  pub some_done : (f : X → List Y) (xs : List X) (j : ℕ) (got all : List Y) → drop j xs ≡ [] → got ++ flat_map f (drop j xs) ≡ all → got ≡ all
  some_done f xs j got all end is = sym (append-nil got) ∙ ap (λ (ys : List X). got ++ flat_map f ys) (sym end) ∙ is

pub map_flat : {X Y Z : Type 0} (g : Y → Z) (h : X → List Y) (xs : List X) → map g (flat_map h xs) ≡ flat_map (λ x. map g (h x)) xs
map_flat g h [] = refl
map_flat g h (x ∷ xs) = map-append g (h x) (flat_map h xs) ∙ ap (λ l. map g (h x) ++ l) (map_flat g h xs)

pub map_twice : {X Y Z : Type 0} (g : Y → Z) (h : X → Y) (xs : List X) → map g (map h xs) ≡ map (λ x. g (h x)) xs
map_twice g h [] = refl
map_twice g h (x ∷ xs) = ap (λ l. g (h x) ∷ l) (map_twice g h xs)

-- ---- a row of a chain

abbrev LockRow : Type 0
LockRow = Row Key (Span Mark)

pub row_at : (rs : List LockRow) (j : ℕ) (key : Key) → slice_get (keys rs) j ≡ Some key →
    drop j rs ≡ record { key = key; runs = runs_at rs j } ∷ drop (j + 1) rs
row_at [] j key found = absurd (none-some key found)
row_at (r ∷ rs) zero key found = let is : r.key ≡ key = cc in λ i. record { key = is i; runs = r.runs } ∷ rs
row_at (r ∷ rs) (suc j) key found =
    let next : suc j + 1 ≡ suc (j + 1) = omega arith in
    row_at rs j key found ∙ ap (λ (n : ℕ). record { key = key; runs = runs_at rs j } ∷ drop n (r ∷ rs)) (sym next)

pub row_end : (rs : List LockRow) (j : ℕ) → slice_get (keys rs) j ≡ None → drop j rs ≡ []
row_end [] zero none = refl
row_end [] (suc j) none = refl
row_end (r ∷ rs) zero none = absurd (cc none)
row_end (r ∷ rs) (suc j) none = row_end rs j none
