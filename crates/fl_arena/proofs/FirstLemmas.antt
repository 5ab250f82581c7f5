-- A walk to the first item that passes a test.
use Rattle.std.proofs.Common.{◌≡◌, ℕ, zero, suc, ◌+◌, ◌≤◌, Bool, true, false, not, List, [], ◌∷◌, length, drop, Option}
use Rattle.std.proofs.Common.{Some, None, slice_get, refl, sym, ◌∙◌, ap, subst, inl, inr}
use Rattle.std.proofs.Common.{MatchOption, arith}
use Rattle.std.specs.Bool.{⊤}
use Rattle.std.specs.List.{find, position_or_len}
use Rattle.std.proofs.lemmas.List.{drop_all}
use Rattle.std.proofs.lemmas.List.Folds.{find_at}
use Rattle.std.proofs.lemmas.List.Sums.{prefix_len-drop_yes, prefix_len-drop_no}
use Rattle.std.proofs.lemmas.Option.{none-some, slice_get_within, slice_get_past, slice_get_cases}
use Rattle.std.proofs.lemmas.Option.{get_or_from_slice_get}
use Rattle.fl_arena.specs.Chains.{Chains, items, slot_at}
use Rattle.fl_arena.specs.Cursors.{cursor_at, item_of, IsInPlace}
use Rattle.fl_arena.specs.declared.cursors.Cursor.{Cursor}
use Rattle.fl_arena.proofs.ChainLaws.{item_of-at}

module _ {A : Type 0} (p : A → Bool) (xs : List A) (n i : ℕ) (so_far : n ≡ i + position_or_len p (drop i xs)) where
  -- past an item that fails
  pub first_more : (x : A) → slice_get xs i ≡ Some x → p x ≡ false → n ≡ i + 1 + position_or_len p (drop (i + 1) xs)
  first_more x found fails =
      let here = ap not (ap p (get_or_from_slice_get xs i x x found) ∙ fails) in
      let rest = prefix_len-drop_yes (λ y. not (p y)) xs i x (slice_get_within xs i x found) here in
      omega (arith, so_far, rest)

  -- at one that passes
  pub first_here : (x : A) → slice_get xs i ≡ Some x → p x ≡ true → i ≡ n
  first_here x found passes =
      let here = ap not (ap p (get_or_from_slice_get xs i x x found) ∙ passes) in
      let rest = prefix_len-drop_no (λ y. not (p y)) xs i x (slice_get_within xs i x found) here in
      omega (arith, so_far, rest)

  -- at the end
  pub first_none : slice_get xs i ≡ None → i ≡ n
  first_none none =
      let past : length xs ≤ i =
      elim (slice_get_cases xs i).1 [
        | inl there ↦ absurd (none-some there.0 (sym none ∙ there.2))
        | inr past ↦ past.0
      ] in
      let rest : position_or_len p (drop i xs) ≡ 0 = ap (position_or_len p) (drop_all i xs past) in
      omega (arith, so_far, rest)

-- a cursor at an index is in place
pub at_in_place : {T : Type 0} (a : Chains T) (c i : ℕ) (cursor : Cursor) → cursor ≡ cursor_at a c i → IsInPlace a cursor
at_in_place a c i cursor at = subst (IsInPlace a) (sym at) (each (slot_at a c i))
  where
    each : (o : Option ℕ) → MatchOption o ⊤ (λ s. o ≡ Some s)
    each None = tt
    each (Some s) = refl

-- an item counted from an index on
slice_get-drop : {A : Type 0} (xs : List A) (k j : ℕ) → slice_get (drop k xs) j ≡ slice_get xs (k + j)
slice_get-drop xs zero j = ap (slice_get xs) (one j)
  where
    one : (j : ℕ) → j ≡ 0 + j
    one j = omega arith
slice_get-drop [] (suc k) j = slice_get_past [] j (omega arith) ∙ sym (slice_get_past [] (suc k + j) (omega arith))
slice_get-drop (x ∷ xs) (suc k) j = slice_get-drop xs k j ∙ ap (slice_get (x ∷ xs)) (next k j)
  where
    next : (k j : ℕ) → suc (k + j) ≡ suc k + j
    next k j = omega arith

-- the item at a cursor there is the first that passes, from an index on
pub found_first : {T : Type 0} (a : Chains T) (c k : ℕ) (p : T → Bool) (cursor : Cursor) → cursor ≡ cursor_at a c (k + position_or_len p (drop k (items a c))) →
    item_of a cursor ≡ find p (drop k (items a c))
found_first a c k p cursor at =
    ap (item_of a) at
    ∙ item_of-at a c (k + position_or_len p (drop k (items a c)))
    ∙ sym (slice_get-drop (items a c) k (position_or_len p (drop k (items a c))))
    ∙ sym (find_at p (drop k (items a c)))
