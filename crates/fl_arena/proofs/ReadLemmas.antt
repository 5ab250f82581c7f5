-- What `slice_get` reads after a write, an insert, a remove and a `map`.
use Rattle.std.proofs.Common.{◌≡◌, ◌≢◌, ℕ, zero, suc, ◌<◌, ◌≤◌, List, [], ◌∷◌, length, set, Some, slice_get, refl, ap}
use Rattle.std.proofs.Common.{arith}
use Rattle.std.specs.List.{insert, remove}
use Rattle.std.specs.Option.{option_map}
use Rattle.fl_arena.specs.Inside.Links.{alter}

module _ {X : Type 0} where
  pub slice_get-set_same : (xs : List X) (i : ℕ) (y : X) → i < length xs → slice_get (set xs i y) i ≡ Some y
  slice_get-set_same [] i y h = absurd (omega arith)
  slice_get-set_same (x ∷ xs) zero y h = refl
  slice_get-set_same (x ∷ xs) (suc i) y h = slice_get-set_same xs i y (omega arith)

  pub slice_get-set_other : (xs : List X) (i j : ℕ) (y : X) → j ≢ i → slice_get (set xs i y) j ≡ slice_get xs j
  slice_get-set_other [] i j y h = refl
  slice_get-set_other (x ∷ xs) zero zero y h = absurd (h refl)
  slice_get-set_other (x ∷ xs) zero (suc j) y h = refl
  slice_get-set_other (x ∷ xs) (suc i) zero y h = refl
  slice_get-set_other (x ∷ xs) (suc i) (suc j) y h = slice_get-set_other xs i j y (λ e. h (ap suc e))

  pub slice_get-insert_below : (xs : List X) (i j : ℕ) (y : X) → j < i → i ≤ length xs → slice_get (insert xs i y) j ≡ slice_get xs j
  slice_get-insert_below xs zero j y h le = absurd (omega arith)
  slice_get-insert_below [] (suc i) j y h le = absurd (omega arith)
  slice_get-insert_below (x ∷ xs) (suc i) zero y h le = refl
  slice_get-insert_below (x ∷ xs) (suc i) (suc j) y h le = slice_get-insert_below xs i j y (omega arith) (omega arith)

  pub slice_get-insert_at : (xs : List X) (i : ℕ) (y : X) → i ≤ length xs → slice_get (insert xs i y) i ≡ Some y
  slice_get-insert_at xs zero y le = refl
  slice_get-insert_at [] (suc i) y le = absurd (omega arith)
  slice_get-insert_at (x ∷ xs) (suc i) y le = slice_get-insert_at xs i y (omega arith)

  pub slice_get-insert_above : (xs : List X) (i j : ℕ) (y : X) → i ≤ j → i ≤ length xs → slice_get (insert xs i y) (suc j) ≡ slice_get xs j
  slice_get-insert_above xs zero j y h le = refl
  slice_get-insert_above [] (suc i) j y h le = absurd (omega arith)
  slice_get-insert_above (x ∷ xs) (suc i) zero y h le = absurd (omega arith)
  slice_get-insert_above (x ∷ xs) (suc i) (suc j) y h le = slice_get-insert_above xs i j y (omega arith) (omega arith)

  pub slice_get-remove_below : (xs : List X) (i j : ℕ) → j < i → slice_get (remove xs i) j ≡ slice_get xs j
  slice_get-remove_below xs zero j h = absurd (omega arith)
  slice_get-remove_below [] (suc i) j h = refl
  slice_get-remove_below (x ∷ xs) (suc i) zero h = refl
  slice_get-remove_below (x ∷ xs) (suc i) (suc j) h = slice_get-remove_below xs i j (omega arith)

  pub slice_get-remove_above : (xs : List X) (i j : ℕ) → i ≤ j → slice_get (remove xs i) j ≡ slice_get xs (suc j)
  slice_get-remove_above [] zero j h = refl
  slice_get-remove_above (x ∷ xs) zero j h = refl
  slice_get-remove_above [] (suc i) j h = refl
  slice_get-remove_above (x ∷ xs) (suc i) zero h = absurd (omega arith)
  slice_get-remove_above (x ∷ xs) (suc i) (suc j) h = slice_get-remove_above xs i j (omega arith)

  pub slice_get-alter_same : (f : X → X) (xs : List X) (i : ℕ) → slice_get (alter f xs i) i ≡ option_map f (slice_get xs i)
  slice_get-alter_same f [] i = refl
  slice_get-alter_same f (x ∷ xs) zero = refl
  slice_get-alter_same f (x ∷ xs) (suc i) = slice_get-alter_same f xs i

  pub slice_get-alter_other : (f : X → X) (xs : List X) (i j : ℕ) → i ≢ j → slice_get (alter f xs i) j ≡ slice_get xs j
  slice_get-alter_other f [] i j h = refl
  slice_get-alter_other f (x ∷ xs) zero zero h = absurd (h refl)
  slice_get-alter_other f (x ∷ xs) zero (suc j) h = refl
  slice_get-alter_other f (x ∷ xs) (suc i) zero h = refl
  slice_get-alter_other f (x ∷ xs) (suc i) (suc j) h = slice_get-alter_other f xs i j (λ e. h (ap suc e))

  pub length-alter : (f : X → X) (xs : List X) (i : ℕ) → length (alter f xs i) ≡ length xs
  length-alter f [] i = refl
  length-alter f (x ∷ xs) zero = refl
  length-alter f (x ∷ xs) (suc i) = ap suc (length-alter f xs i)

  -- lists that read alike are equal
  pub same_from_slice_get : (xs ys : List X) → ((i : ℕ) → slice_get xs i ≡ slice_get ys i) → xs ≡ ys
  same_from_slice_get [] [] h = refl
  same_from_slice_get [] (y ∷ ys) h = cc (h 0)
  same_from_slice_get (x ∷ xs) [] h = cc (h 0)
  same_from_slice_get (x ∷ xs) (y ∷ ys) h = let e = same_from_slice_get xs ys (λ i. h (suc i)) in cc (h 0)
