-- The free nodes are as many as the slots that are on no chain.
use Rattle.std.proofs.Common.{◌≡◌, ℕ, zero, suc, ◌+◌, ◌<◌, Bool, true, not, cond, eqb, List, [], ◌∷◌, length, set}
use Rattle.std.proofs.Common.{count_by, Option, Some, None, slice_get}
use Rattle.std.proofs.Common.{refl, sym, ◌∙◌, ap, inl, inr, arith, eq-eqb}
use Rattle.std.specs.List.{list_any, range_with_len}
use Rattle.std.specs.Option.{option_map}
use Rattle.std.proofs.lemmas.Bool.{or_cases, eqb-true, false_from_ne_true}
use Rattle.std.proofs.lemmas.List.Sums.{sum_by-cons, sum_by-set}
use Rattle.std.proofs.lemmas.Option.{slice_get_within, get_or_from_slice_get, slice_get-get_or}
use Rattle.std.proofs.lemmas.Map.Keys.{any_passes_from_place}
use Rattle.fl_arena.specs.Chains.{Entry, Chains, entries, slot_at, is_linked, unlinked_count, IsLinked}
use Rattle.fl_arena.specs.Inside.Links.{alter, alter_link, with_next, with_previous, relinked, is_free, Spells}
use Rattle.fl_arena.specs.Inside.Held.{Held, Free, Taken}
use Rattle.fl_arena.specs.declared.nodes.Ends.{Ends}
use Rattle.fl_arena.proofs.PlaceLemmas.{linked_at, chain_within, same_place}

module _ {X : Type 0} where
  count-cons : (p : X → Bool) (x : X) (xs : List X) → count_by p (x ∷ xs) ≡ cond (p x) 1 0 + count_by p xs
  count-cons p x xs = sum_by-cons (λ (y : X). cond (p y) 1 0) x xs

  -- a function that keeps the test keeps the count
  count-alter : (p : X → Bool) (f : X → X) → ((x : X) → p (f x) ≡ p x) → (xs : List X) (i : ℕ) → count_by p (alter f xs i) ≡ count_by p xs
  count-alter p f keeps [] i = refl
  count-alter p f keeps (x ∷ xs) zero =
      count-cons p (f x) xs ∙ (ap (λ (b : Bool). cond b 1 0 + count_by p xs) (keeps x) ∙ sym (count-cons p x xs))
  count-alter p f keeps (x ∷ xs) (suc i) =
      count-cons p x (alter f xs i) ∙ (ap (λ (n : ℕ). cond (p x) 1 0 + n) (count-alter p f keeps xs i) ∙ sym (count-cons p x xs))

  count-alter_link : (p : X → Bool) (f : X → X) → ((x : X) → p (f x) ≡ p x) → (xs : List X) (link : Option ℕ) →
      count_by p (alter_link f xs link) ≡ count_by p xs
  count-alter_link p f keeps xs None = refl
  count-alter_link p f keeps xs (Some i) = count-alter p f keeps xs i

  -- a write changes the count by what it replaces
  pub count-set : (p : X → Bool) (xs : List X) (i : ℕ) (x y : X) → slice_get xs i ≡ Some x →
      count_by p (set xs i y) + cond (p x) 1 0 ≡ count_by p xs + cond (p y) 1 0
  count-set p xs i x y h =
      let read = get_or_from_slice_get xs i x x h in
      ap (λ (z : X). count_by p (set xs i y) + cond (p z) 1 0) (sym read)
      ∙ sum_by-set (λ (z : X). cond (p z) 1 0) xs i y x (slice_get_within xs i x h)

  any_place : (p : X → Bool) (xs : List X) → list_any p xs ≡ true → (i : ℕ) × (x : X) × (slice_get xs i ≡ Some x) × (p x ≡ true)
  any_place p [] e = absurd (let clash = e in cc)
  any_place p (y ∷ xs) e =
      elim (or_cases (p y) (list_any p xs) e) [
        | inl here ↦ (0, y, refl, here)
        | inr later ↦
            let there = any_place p xs later in
            (suc there.0, there.1, there.2, there.3)
      ]

  -- tests of the indexes from k on that answer as tests of the elements count alike
  count_range : (q : ℕ → Bool) (p : X → Bool) (xs : List X) (k : ℕ) → ((i : ℕ) (x : X) → slice_get xs i ≡ Some x → q (k + i) ≡ p x) →
      count_by q (range_with_len k (length xs)) ≡ count_by p xs
  count_range q p [] k h = refl
  count_range q p (x ∷ xs) k h =
      let here : q k ≡ p x = ap q (omega arith) ∙ h 0 x refl in
      let later = count_range q p xs (k + 1) (λ i y found. ap q (omega arith) ∙ h (suc i) y found) in
      sum_by-cons (λ (n : ℕ). cond (q n) 1 0) k (range_with_len (k + 1) (length xs))
      ∙ (ap (λ (b : Bool). cond b 1 0 + count_by q (range_with_len (k + 1) (length xs))) here
      ∙ (ap (λ (n : ℕ). cond (p x) 1 0 + n) later ∙ sym (count-cons p x xs)))

module _ {T : Type 0} where
  next_keeps : (link : Option ℕ) (x : Held T) → is_free (with_next link x) ≡ is_free x
  next_keeps link (Free next) = refl
  next_keeps link (Taken m) = refl

  previous_keeps : (link : Option ℕ) (x : Held T) → is_free (with_previous link x) ≡ is_free x
  previous_keeps link (Free next) = refl
  previous_keeps link (Taken m) = refl

  pub count-relinked : (nodes : List (Held T)) (before after previous next : Option ℕ) →
      count_by is_free (relinked nodes before after previous next) ≡ count_by is_free nodes
  count-relinked nodes before after previous next =
      count-alter_link is_free (with_previous previous) (previous_keeps previous) (alter_link (with_next next) nodes before) after
      ∙ count-alter_link is_free (with_next next) (next_keeps next) nodes before

  linked_place : (a : Chains T) (slot : ℕ) → is_linked a slot ≡ true → (c : ℕ) × (i : ℕ) × (slot_at a c i ≡ Some slot)
  linked_place a slot h =
      let chain = any_place (λ (es : List (Entry T)). list_any (λ (e : Entry T). eqb e.slot slot) es) a.chains h in
      let entry = any_place (λ (e : Entry T). eqb e.slot slot) chain.1 chain.3 in
      let same : entries a chain.0 ≡ chain.1 = get_or_from_slice_get a.chains chain.0 chain.1 [] chain.2 in (
        chain.0,
        entry.0,
        ap (λ (es : List (Entry T)). option_map (λ (e : Entry T). e.slot) (slice_get es entry.0)) same
            ∙ (ap (option_map (λ (e : Entry T). e.slot)) entry.2 ∙ ap Some (eqb-true entry.1.slot slot entry.3)),
      )

  linked_from : (a : Chains T) (c i : ℕ) (e : Entry T) → c < length a.chains → slice_get (entries a c) i ≡ Some e → is_linked a e.slot ≡ true
  linked_from a c i e within found =
      any_passes_from_place (λ (es : List (Entry T)). list_any (λ (x : Entry T). eqb x.slot e.slot) es) a.chains c (entries a c)
      (slice_get-get_or a.chains c [] within)
      (any_passes_from_place (λ (x : Entry T). eqb x.slot e.slot) (entries a c) i e found (eq-eqb e.slot e.slot refl))

  -- the free slots are those on no chain
  pub unlinked : (nodes : List (Held T)) (ends : List Ends) (spare : Option ℕ) (free : ℕ) (a : Chains T) → Spells nodes ends spare free a →
      free ≡ unlinked_count a
  unlinked nodes ends spare free a h =
      sym (ap (λ (n : ℕ). count_by (λ (slot : ℕ). not (is_linked a slot)) (range_with_len 0 n)) h.slots
      ∙ (count_range (λ (slot : ℕ). not (is_linked a slot)) is_free nodes 0 (λ i x found. ap (λ (n : ℕ). not (is_linked a n)) (zero_plus i) ∙ at_node i x found)
      ∙ h.free_nodes))
    where
      zero_plus : (i : ℕ) → 0 + i ≡ i
      zero_plus i = omega arith

      at_node : (i : ℕ) (x : Held T) → slice_get nodes i ≡ Some x → not (is_linked a i) ≡ is_free x
      at_node i (Free next) found =
          ap not (false_from_ne_true (is_linked a i) (λ e.
          let place = linked_place a i e in
          let clash = sym found ∙ (linked_at nodes ends spare free a h place.0 place.1 i place.2).linked in cc))
      at_node i (Taken m) found =
          let on = h.owned i m found in
          let at = linked_at nodes ends spare free a h m.chain on.index i on.found in
          ap not (ap (is_linked a) (sym at.slot_is) ∙ linked_from a m.chain on.index at.entry (chain_within a m.chain on.index at.entry at.found) at.found)

  -- no slot is linked twice
  pub linked_once : (nodes : List (Held T)) (ends : List Ends) (spare : Option ℕ) (free : ℕ) (a : Chains T) → Spells nodes ends spare free a → IsLinked a
  linked_once nodes ends spare free a h = record {
    in_range = λ c i slot there.
        let within = slice_get_within nodes slot _ (linked_at nodes ends spare free a h c i slot there).linked in
        let slots = h.slots in
        omega arith;
    once = λ c i d j slot here there. same_place nodes ends spare free a h c d slot i j here there;
    others = let count = h.count in let slots = h.slots in let rest = unlinked nodes ends spare free a h in omega arith;
  }
