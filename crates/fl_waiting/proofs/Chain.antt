-- The one chain of an arena.
use Rattle.std.proofs.Common.{◌≡◌, ℕ, zero, suc, ◌<◌, Bool, true, false, cond, ◌||◌, Option, Some, None, is_some, Bor}
use Rattle.std.proofs.Common.{List, [], ◌∷◌, length, sum_by, take, get_or, slice_get, slice_index_or, refl, sym, ap}
use Rattle.std.proofs.Common.{◌∙◌, arith}
use Rattle.std.proofs.lemmas.List.{length-map}
use Rattle.std.proofs.lemmas.Option.{none-some}
use Rattle.std.specs.List.{find, list_any}
use Rattle.std.specs.Option.{option_copied}
use Rattle.fl_arena.specs.Chains.{Chains, Entry, entries, items, item_count}

module _ {T : Type 0} where
  counted : (cs : List (List (Entry T))) → length cs ≡ 1 → sum_by length cs ≡ length (slice_index_or cs 0 [])
  counted [] one = absurd (omega arith)
  counted (c ∷ []) one = omega arith
  counted (c ∷ d ∷ cs) one = absurd (omega arith)

  pub all_counted : (a : Chains T) → length a.chains ≡ 1 → item_count a ≡ length (items a 0)
  all_counted a one = counted a.chains one ∙ sym (length-map (entries a 0) (λ (e : Entry T). e.item))

  pub some_copied : (o : Option (Bor T)) → is_some o ≡ is_some (option_copied o)
  some_copied None = refl
  some_copied (Some x) = refl

  -- one is found if any passes
  pub any_found : (t : T → Bool) (xs : List T) → is_some (find t xs) ≡ list_any t xs
  any_found t [] = refl
  any_found t (x ∷ xs) = go (t x) (any_found t xs)
    where
      go : (b : Bool) → is_some (find t xs) ≡ list_any t xs → is_some (cond b (Some x) (find t xs)) ≡ (b || list_any t xs)
      go true later = refl
      go false later = later

  -- what stands at a place
  pub found_at : (xs : List T) (i : ℕ) (x : T) → slice_get xs i ≡ Some x → (i < length xs) × (get_or xs i x ≡ x)
  found_at [] i x e = absurd (none-some x e)
  found_at (y ∷ xs) zero x e = (omega arith, cc e)
  found_at (y ∷ xs) (suc i) x e = let rest = found_at xs i x e in (omega arith, rest.1)

  -- all stand before a place where nothing does
  pub nothing_left : (xs : List T) (i : ℕ) → slice_get xs i ≡ None → take i xs ≡ xs
  nothing_left [] zero e = refl
  nothing_left [] (suc i) e = refl
  nothing_left (x ∷ xs) zero e = absurd (cc e)
  nothing_left (x ∷ xs) (suc i) e = ap (λ l. x ∷ l) (nothing_left xs i e)
