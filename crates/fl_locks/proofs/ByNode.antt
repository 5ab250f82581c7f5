-- Items that a stable sort has put in the order of a number are those of each number, one after another.
use Rattle.std.proofs.Common.{◌≡◌, ℕ, suc, ◌<◌, ◌≤◌, Bool, true, false, cond, not, ◌&&◌, ◌||◌, ◌==◌, List, []}
use Rattle.std.proofs.Common.{◌∷◌, ◌++◌, map, is_some, Option, Some, refl, ap, sym, ◌∙◌, subst, arith}
use Rattle.std.proofs.lemmas.Bool.Decides.{nat_tests}
use Rattle.std.proofs.lemmas.List.Elements.{All-from_recursion, recursion_from_All}
use Rattle.std.proofs.lemmas.List.Sorted.{All-permutation, IsNonDecreasingBy-from_sort}
use Rattle.std.specs.Cmp.{nat_cmp_total, first_so, second_so}
use Rattle.std.specs.FinMap.{find, entries, entries_sorted, from_entries, get-from_entries, keys, contains_key-keys, is_sorted}
use Rattle.std.specs.FinMap.Entries.{below_all}
use Rattle.std.specs.List.{filter, flat_map, list_any, AllByRecursion}
use Rattle.std.specs.List.Sorted.{IsNonDecreasingBy, IsPermutation, IsSortedByKey, IsStableByKey}
use Rattle.std.specs.Ordering.{nat_cmp, eq_by_cmp, is_lt}
use Rattle.fl_locks.proofs.Each.{all_weaker, filter_none}
use Rattle.fl_locks.proofs.FirstPids.{truth, same_number}

-- ---- numbers that rise

abbrev Rising : List ℕ → Type 0
Rising [] = Unit {0}
Rising (k ∷ ks) = AllByRecursion (λ j. k < j) ks × Rising ks

less : (k j : ℕ) → is_lt (nat_cmp k j) ≡ true → k < j
less k j e = grind (arith, nat_tests)

differs : (k j : ℕ) → k < j → (k == j) ≡ false
differs k j h = grind (arith, nat_tests)

lower_differs : (k n j : ℕ) → k ≤ n → j < k → (n == j) ≡ false
lower_differs k n j a b = grind (arith, nat_tests)

-- a number that stands among those above another is above it
above : (k n : ℕ) (js : List ℕ) → AllByRecursion (λ j. k < j) js → list_any (λ j. n == j) js ≡ true → k < n
above k n [] each any = absurd (cc any)
above k n (j ∷ js) each any = go (n == j) refl any (above k n js each.1)
  where
    here : k < j → (n == j) ≡ true → k < n
    here low is = grind (arith, nat_tests)

    go : (b : Bool) → (n == j) ≡ b → (b || list_any (λ j. n == j) js) ≡ true → (list_any (λ j. n == j) js ≡ true → k < n) → k < n
    go true is h rest = here each.0 is
    go false is h rest = rest h

module _ {V : Type 0} where
  above_all : (k : ℕ) (es : List (ℕ × V)) → below_all nat_cmp k es ≡ true → AllByRecursion (λ j. k < j) (map (λ (e : ℕ × V). e.0) es)
  above_all k [] below = tt
  above_all k (e ∷ es) below =
      (less k e.0 (first_so (is_lt (nat_cmp k e.0)) (below_all nat_cmp k es) below), above_all k es (second_so (is_lt (nat_cmp k e.0)) (below_all nat_cmp k es) below))

  rising : (es : List (ℕ × V)) → is_sorted nat_cmp es ≡ true → Rising (map (λ (e : ℕ × V). e.0) es)
  rising [] sorted = tt
  rising (e ∷ es) sorted =
      (above_all e.0 es (first_so (below_all nat_cmp e.0 es) (is_sorted nat_cmp es) sorted), rising es (second_so (below_all nat_cmp e.0 es) (is_sorted nat_cmp es) sorted))

module _ {X : Type 0} (n : X → ℕ) where
  -- the items of a number
  abbrev of : List X → ℕ → List X
  of xs k = filter (λ (x : X). n x == k) xs

  -- ---- a list in order, by the numbers

  abbrev Up : List X → Type 0
  Up [] = Unit {0}
  Up (x ∷ xs) = AllByRecursion (λ y. n x ≤ n y) xs × Up xs

  nothing : (ks : List ℕ) → flat_map (of []) ks ≡ []
  nothing [] = refl
  nothing (k ∷ ks) = nothing ks

  elsewhere : (x : X) (xs : List X) (ks : List ℕ) → AllByRecursion (λ k. (n x == k) ≡ false) ks → flat_map (of (x ∷ xs)) ks ≡ flat_map (of xs) ks
  elsewhere x xs [] each = refl
  elsewhere x xs (k ∷ ks) each = λ i. cond (each.0 i) (x ∷ of xs k) (of xs k) ++ elsewhere x xs ks each.1 i

  later_differ : (x : X) (k : ℕ) (ks : List ℕ) → (n x == k) ≡ true → AllByRecursion (λ j. k < j) ks → AllByRecursion (λ j. (n x == j) ≡ false) ks
  later_differ x k [] is each = tt
  later_differ x k (j ∷ js) is each = (one each.0, later_differ x k js is each.1)
    where
      one : k < j → (n x == j) ≡ false
      one low = grind (arith, nat_tests)

  -- the first of a list in order is the first of its number
  first : (x : X) (xs : List X) (ks : List ℕ) → Rising ks → list_any (λ k. n x == k) ks ≡ true → AllByRecursion (λ y. n x ≤ n y) xs →
      flat_map (of (x ∷ xs)) ks ≡ x ∷ flat_map (of xs) ks
  first x xs [] up any low = absurd (cc any)
  first x xs (k ∷ ks) up any low = go (n x == k) refl any (λ h. first x xs ks up.1 h low)
    where
      go : (b : Bool) → (n x == k) ≡ b → (b || list_any (λ k. n x == k) ks) ≡ true →
          (list_any (λ k. n x == k) ks ≡ true → flat_map (of (x ∷ xs)) ks ≡ x ∷ flat_map (of xs) ks) →
          cond b (x ∷ of xs k) (of xs k) ++ flat_map (of (x ∷ xs)) ks ≡ x ∷ (of xs k ++ flat_map (of xs) ks)
      go true is h rest = ap (λ (l : List X). x ∷ (of xs k ++ l)) (elsewhere x xs ks (later_differ x k ks is up.0))
      go false is h rest =
          let empty = filter_none (λ (x : X). n x == k) xs (all_weaker (λ y. n x ≤ n y) (λ y. (n y == k) ≡ false) (λ y le. lower_differs (n x) (n y) k le (above k (n x) ks up.0 h)) xs low) in
          ap (λ (l : List X). l ++ flat_map (of (x ∷ xs)) ks) empty
          ∙ rest h
          ∙ ap (λ (l : List X). x ∷ (l ++ flat_map (of xs) ks)) (sym empty)

  gathered : (xs : List X) (ks : List ℕ) → Rising ks → AllByRecursion (λ x. list_any (λ k. n x == k) ks ≡ true) xs → Up xs → flat_map (of xs) ks ≡ xs
  gathered [] ks rises each up = nothing ks
  gathered (x ∷ xs) ks rises each up = first x xs ks rises each.0 up.0 ∙ ap (λ (l : List X). x ∷ l) (gathered xs ks rises each.1 up.1)

  up_of : (xs : List X) → IsNonDecreasingBy n xs → Up xs
  up_of [] up = tt
  up_of (x ∷ xs) up = (
    recursion_from_All (λ y. n x ≤ n y) xs (λ k d within. up 0 (suc k) d (omega arith) (omega arith)),
    up_of xs (λ i j d a b. up (suc i) (suc j) d (omega arith) (omega arith)),
  )

  -- ---- which numbers there are

  abbrev numbered : List X → List (ℕ × X)
  numbered xs = map (λ (x : X). (n x, x)) xs

  found_more : (b : Bool) (x : X) (o : Option X) → is_some o ≡ true → is_some (cond b (Some x) o) ≡ true
  found_more true x o e = refl
  found_more false x o e = e

  each_found : (xs : List X) → AllByRecursion (λ x. is_some (find nat_cmp (n x) (numbered xs)) ≡ true) xs
  each_found [] = tt
  each_found (x ∷ xs) = (
    ap (λ (b : Bool). is_some (cond b (Some x) (find nat_cmp (n x) (numbered xs)))) (same_number (n x) (n x) ∙ itself (n x)),
    all_weaker (λ y. is_some (find nat_cmp (n y) (numbered xs)) ≡ true) (λ y. is_some (find nat_cmp (n y) (numbered (x ∷ xs))) ≡ true)
        (λ y h. found_more (eq_by_cmp nat_cmp (n y) (n x)) x (find nat_cmp (n y) (numbered xs)) h) xs (each_found xs),
  )
    where
      itself : (k : ℕ) → (k == k) ≡ true
      itself k = grind (arith, nat_tests)

  any_number : (k : ℕ) (ks : List ℕ) → list_any (eq_by_cmp nat_cmp k) ks ≡ list_any (λ j. k == j) ks
  any_number k [] = refl
  any_number k (j ∷ js) = λ i. same_number k j i || any_number k js i

  each_number : (xs : List X) → AllByRecursion (λ x. list_any (λ k. n x == k) (keys (from_entries {R = nat_cmp} (numbered xs))) ≡ true) xs
  each_number xs =
      all_weaker (λ x. is_some (find nat_cmp (n x) (numbered xs)) ≡ true)
      (λ x. list_any (λ k. n x == k) (keys (from_entries {R = nat_cmp} (numbered xs))) ≡ true)
      (λ x h.
      sym (any_number (n x) (keys (from_entries {R = nat_cmp} (numbered xs))))
      ∙ sym (contains_key-keys (from_entries {R = nat_cmp} (numbered xs)) (n x))
      ∙ ap is_some (get-from_entries nat_cmp_total (numbered xs) (n x))
      ∙ h) xs (each_found xs)

  -- ---- a stable sort

  tie : (k j : ℕ) → (not (is_lt (nat_cmp k j)) && not (is_lt (nat_cmp j k))) ≡ (j == k)
  tie k j = grind (arith, nat_tests)

  same_filter : (p q : X → Bool) → ((x : X) → p x ≡ q x) → (xs : List X) → filter p xs ≡ filter q xs
  same_filter p q same [] = refl
  same_filter p q same (x ∷ xs) = λ i. cond (same x i) (x ∷ same_filter p q same xs i) (same_filter p q same xs i)

  -- the items of a number keep their order
  kept_of : (xs ys : List X) → IsStableByKey n nat_cmp xs ys → (x : X) → of ys (n x) ≡ of xs (n x)
  kept_of xs ys stable x =
      let t : X → Bool = λ y. not (is_lt (nat_cmp (n x) (n y))) && not (is_lt (nat_cmp (n y) (n x))) in
      let same : (y : X) → t y ≡ (n y == n x) = λ y. tie (n x) (n y) in
      sym (same_filter t (λ y. n y == n x) same ys) ∙ stable x ∙ same_filter t (λ y. n y == n x) same xs

  kept_each : (xs ys : List X) → IsStableByKey n nat_cmp xs ys → ((k : ℕ) → (x : X) × (n x ≡ k)) → (ks : List ℕ) → flat_map (of ys) ks ≡ flat_map (of xs) ks
  kept_each xs ys stable some [] = refl
  kept_each xs ys stable some (k ∷ ks) =
      let x = some k in
      λ i. subst (λ (j : ℕ). of ys j ≡ of xs j) x.1 (kept_of xs ys stable x.0) i ++ kept_each xs ys stable some ks i

  -- what a stable sort gives, if some item has each number
  pub sorted_stably : (xs ys : List X) → ((k : ℕ) → (x : X) × (n x ≡ k)) → IsPermutation xs ys → IsSortedByKey n nat_cmp ys → IsStableByKey n nat_cmp xs ys →
      ys ≡ flat_map (of xs) (keys (from_entries {R = nat_cmp} (numbered xs)))
  sorted_stably xs ys some same up stable =
      let ks = keys (from_entries {R = nat_cmp} (numbered xs)) in
      let there : AllByRecursion (λ y. list_any (λ k. n y == k) ks ≡ true) ys =
      recursion_from_All (λ y. list_any (λ k. n y == k) ks ≡ true) ys (All-permutation (λ y. list_any (λ k. n y == k) ks ≡ true) xs ys same
      (All-from_recursion (λ y. list_any (λ k. n y == k) ks ≡ true) xs (each_number xs))) in
      sym (gathered ys ks (rising (entries (from_entries {R = nat_cmp} (numbered xs))) (truth _ (entries_sorted (from_entries {R = nat_cmp} (numbered xs))))) there
      (up_of ys (IsNonDecreasingBy-from_sort n ys up)))
      ∙ kept_each xs ys stable some ks
