-- Lists that differ in one place, and sums over them.
use Rattle.std.proofs.Common.{◌≡◌, ◌≢◌, ℕ, zero, suc, ◌+◌, ◌<◌, ◌≤◌, List, [], ◌∷◌, length, set, map, take, get_or}
use Rattle.std.proofs.Common.{sum_by, Some, slice_get, refl, sym, ap}
use Rattle.std.proofs.Common.{subst, arith}
use Rattle.std.specs.List.{insert, remove, AllByRecursion}
use Rattle.std.proofs.lemmas.List.{get_or-set_other, length-set}
use Rattle.std.proofs.lemmas.List.Sums.{sum_by-cons, sum_by-set}
use Rattle.std.proofs.lemmas.Option.{none-some}

module _ {X : Type 0} (x0 : X) where
  -- lists of one length that read alike are equal
  pub same_lists : (xs ys : List X) → length ys ≡ length xs → ((d : ℕ) → get_or ys d x0 ≡ get_or xs d x0) → ys ≡ xs
  same_lists [] [] long same = refl
  same_lists [] (y ∷ ys) long same = absurd (omega (arith, long))
  same_lists (x ∷ xs) [] long same = absurd (omega (arith, long))
  same_lists (x ∷ xs) (y ∷ ys) long same =
      let rest = same_lists xs ys (omega (arith, long)) (λ d. same (suc d)) in
      λ t. same 0 t ∷ rest t

  -- and if they read alike but for one place, one is the other with another item there
  pub set_others : (xs ys : List X) (c : ℕ) → length ys ≡ length xs → ((d : ℕ) → d ≢ c → get_or ys d x0 ≡ get_or xs d x0) → ys ≡ set xs c (get_or ys c x0)
  set_others [] [] c long same = refl
  set_others [] (y ∷ ys) c long same = absurd (omega (arith, long))
  set_others (x ∷ xs) [] c long same = absurd (omega (arith, long))
  set_others (x ∷ xs) (y ∷ ys) zero long same =
      ap (λ (l : List X). y ∷ l) (same_lists xs ys (omega (arith, long)) (λ d. same (suc d) (λ e. omega (arith, e))))
  set_others (x ∷ xs) (y ∷ ys) (suc c) long same =
      let rest = set_others xs ys c (omega (arith, long)) (λ d apart. same (suc d) (λ e. apart (omega (arith, e)))) in
      let first = same 0 (λ e. omega (arith, e)) in
      λ t. first t ∷ rest t

  -- two different places together weigh no more than all
  pub two_places : (f : X → ℕ) (xs : List X) (c d : ℕ) → f x0 ≡ 0 → c ≢ d → c < length xs → d < length xs →
      f (get_or xs c x0) + f (get_or xs d x0) ≤ sum_by f xs
  two_places f xs c d none apart in_c in_d =
      let first = sum_by-set f xs c x0 x0 in_c in
      let second = sum_by-set f (set xs c x0) d x0 x0 (omega (arith, length-set xs c x0)) in
      let other = ap f (get_or-set_other xs c d x0 x0 (λ e. apart (sym e))) in
      omega (arith, first, second, other, none)

module _ {X : Type 0} where
  -- what holds of each item of a list holds without one of them, and with one more
  pub each_remove : (P : X → Type 0) (xs : List X) (i : ℕ) → AllByRecursion P xs → AllByRecursion P (remove xs i)
  each_remove P [] zero each = tt
  each_remove P [] (suc i) each = tt
  each_remove P (x ∷ xs) zero each = each.1
  each_remove P (x ∷ xs) (suc i) each = (each.0, each_remove P xs i each.1)

  pub each_insert : (P : X → Type 0) (xs : List X) (i : ℕ) (y : X) → AllByRecursion P xs → P y → AllByRecursion P (insert xs i y)
  each_insert P xs zero y each it = (it, each)
  each_insert P [] (suc i) y each it = (it, tt)
  each_insert P (x ∷ xs) (suc i) y each it = (each.0, each_insert P xs i y each.1 it)

  pub each_at : (P : X → Type 0) (xs : List X) (i : ℕ) (x : X) → AllByRecursion P xs → slice_get xs i ≡ Some x → P x
  each_at P [] i x each found = absurd (none-some x found)
  each_at P (y ∷ ys) zero x each found = let same : y ≡ x = cc in subst P same each.0
  each_at P (y ∷ ys) (suc i) x each found = each_at P ys i x each.1 found

  pub each_weaker : (P Q : X → Type 0) → ((x : X) → P x → Q x) → (xs : List X) → AllByRecursion P xs → AllByRecursion Q xs
  each_weaker P Q weaker [] each = tt
  each_weaker P Q weaker (x ∷ xs) each = (weaker x each.0, each_weaker P Q weaker xs each.1)

  pub map_same : {Y : Type 0} (f g : X → Y) (xs : List X) → AllByRecursion (λ x. f x ≡ g x) xs → map f xs ≡ map g xs
  map_same f g [] each = refl
  map_same f g (x ∷ xs) each = let rest = map_same f g xs each.1 in λ t. each.0 t ∷ rest t

  -- a sum over all but the last place
  pub sum_but_last : (f : X → ℕ) (x0 : X) (xs : List X) (n : ℕ) → length xs ≡ n + 1 → sum_by f xs ≡ sum_by f (take n xs) + f (get_or xs n x0)
  sum_but_last f x0 [] n long = absurd (omega (arith, long))
  sum_but_last f x0 (x ∷ []) zero long = omega (arith, sum_by-cons f x [])
  sum_but_last f x0 (x ∷ y ∷ ys) zero long = absurd (omega (arith, long))
  sum_but_last f x0 (x ∷ xs) (suc n) long =
      omega (arith, sum_by-cons f x xs, sum_by-cons f x (take n xs), sum_but_last f x0 xs n (omega (arith, long)))

  -- what stands at a place of some of the lists, each mapped
  pub mapped_at : {Y : Type 0} (f : List X → List Y) → f [] ≡ [] → (xs : List (List X)) (n c : ℕ) → c < n → get_or (map f (take n xs)) c [] ≡ f (get_or xs c [])
  mapped_at f none xs zero c less = absurd (omega (arith, less))
  mapped_at f none [] (suc n) c less = sym none
  mapped_at f none (x ∷ xs) (suc n) zero less = refl
  mapped_at f none (x ∷ xs) (suc n) (suc c) less = mapped_at f none xs n c (omega (arith, less))

  pub mapped_past : {Y : Type 0} (f : List X → List Y) (xs : List (List X)) (n c : ℕ) → n ≤ c → get_or (map f (take n xs)) c [] ≡ []
  mapped_past f xs zero c past = refl
  mapped_past f [] (suc n) c past = refl
  mapped_past f (x ∷ xs) (suc n) zero past = absurd (omega (arith, past))
  mapped_past f (x ∷ xs) (suc n) (suc c) past = mapped_past f xs n c (omega (arith, past))
