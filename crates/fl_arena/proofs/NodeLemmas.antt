-- Writes of one link, and a list of free nodes.
use Rattle.std.proofs.Common.{◌≡◌, ℕ, zero, suc, ◌+◌, ◌<◌, List, [], ◌∷◌, ◌++◌, length, set, get_or, cond, Option, Some}
use Rattle.std.proofs.Common.{None, slice_get, refl, sym, ap, inl}
use Rattle.std.proofs.Common.{inr, ◌⊎◌, arith, add-one, length-append}
use Rattle.std.proofs.lemmas.List.Sums.{sum_by_push}
use Rattle.std.proofs.lemmas.Option.{slice_get_read, none-some}
use Rattle.fl_arena.specs.Inside.Links.{is_free, alter, alter_link, AreFree, IsWithin}
use Rattle.fl_arena.specs.Inside.Held.{Held, Free, Taken}
use Rattle.fl_arena.proofs.FreeLemmas.{SpellsFree-kept}

module _ {X : Type 0} where
  -- an element that is known is written
  pub alter-set : (f : X → X) (xs : List X) (i : ℕ) (x : X) → slice_get xs i ≡ Some x → alter f xs i ≡ set xs i (f x)
  alter-set f [] i x h = refl
  alter-set f (y ∷ xs) zero x h = let same : y ≡ x = cc in cc
  alter-set f (y ∷ xs) (suc i) x h = ap (λ (l : List X). y ∷ l) (alter-set f xs i x h)

  -- an element that was read is written, at the slot that the link names
  pub alter_link-read : (f : X → X) (xs : List X) (link : Option ℕ) (i at : ℕ) (x : X) → link ≡ Some i → at ≡ i → i < length xs → x ≡ get_or xs at x →
      set xs at (f x) ≡ alter_link f xs link
  alter_link-read f xs link i at x named same within read =
      rw (named, same) (sym (alter-set f xs i x (slice_get_read xs (length xs) i x refl within (rw same at read))))

  slice_get-append_left : (xs ys : List X) (i : ℕ) (x : X) → slice_get xs i ≡ Some x → slice_get (xs ++ ys) i ≡ Some x
  slice_get-append_left [] ys i x h = absurd (none-some x h)
  slice_get-append_left (y ∷ xs) ys zero x h = h
  slice_get-append_left (y ∷ xs) ys (suc i) x h = slice_get-append_left xs ys i x h

  slice_get_push : (xs : List X) (y : X) → slice_get (xs ++ y ∷ []) (length xs) ≡ Some y
  slice_get_push [] y = refl
  slice_get_push (x ∷ xs) y = slice_get_push xs y

  -- an element of a longer list stood in the shorter, or is the new one
  pushed_cases : (xs : List X) (y : X) (i : ℕ) (x : X) → slice_get (xs ++ y ∷ []) i ≡ Some x → (slice_get xs i ≡ Some x) ⊎ (x ≡ y)
  pushed_cases [] y zero x h = inr cc
  pushed_cases [] y (suc i) x h = absurd (none-some x h)
  pushed_cases (z ∷ xs) y zero x h = inl h
  pushed_cases (z ∷ xs) y (suc i) x h = pushed_cases xs y i x h

module _ {T : Type 0} where
  -- a link names a node of a list that is as long
  pub IsWithin-same : (nodes more : List (Held T)) (link : Option ℕ) → length more ≡ length nodes → IsWithin nodes link → IsWithin more link
  IsWithin-same nodes more None same h = h
  IsWithin-same nodes more (Some slot) same h = omega arith

  pub AreFree-push : (nodes : List (Held T)) (link : Option ℕ) (count : ℕ) → AreFree nodes link count →
      AreFree (nodes ++ Free link ∷ []) (Some count) (count + 1)
  AreFree-push nodes link count h = record {
    len = let long = h.len in omega (arith, length-append nodes (Free link ∷ []));
    free_list =
        rw add-one (
          count,
          link,
          refl,
          rw (← h.len) (slice_get_push nodes (Free link)),
          SpellsFree-kept nodes (nodes ++ Free link ∷ []) (λ slot next was. slice_get-append_left nodes (Free link ∷ []) slot (Free next) was) link count
              h.free_list,
        );
    counted = let before = h.counted in omega (arith, sum_by_push (λ (x : Held T). cond (is_free x) 1 0) nodes (Free link));
    untaken = λ slot m now.
        elim (pushed_cases nodes (Free link) slot (Taken m) now) [
          | inl was ↦ h.untaken slot m was
          | inr same ↦ cc
        ];
  }
