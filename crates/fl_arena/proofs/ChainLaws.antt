-- What callers need of the chains: a change to one of them leaves every other as it is, and the items
-- change as the entries do.
use Rattle.std.proofs.Common.{◌≡◌, ◌≢◌, ℕ, ◌+◌, ◌<◌, List, [], length, set, map, take, drop, zero, suc, inl, inr, ◌≤◌}
use Rattle.std.proofs.Common.{◌++◌, ◌∷◌, ◌∙◌, Some, slice_get, refl}
use Rattle.std.proofs.Common.{sym, ap, subst, arith}
use Rattle.std.specs.List.{insert, remove}
use Rattle.std.specs.Option.{option_map}
use Rattle.std.proofs.lemmas.List.{length-set, get_or-set_same, get_or-set_other, map-append, take-map, drop-map}
use Rattle.std.proofs.lemmas.List.{take_all, drop_all, map-set, length-map}
use Rattle.std.proofs.lemmas.Option.{slice_get_past, slice_get-map}
use Rattle.std.proofs.lemmas.Bool.{cases_lt}
use Rattle.std.proofs.lemmas.List.Sums.{sum_by-set}
use Rattle.fl_arena.specs.Chains.{Entry, Chains, entries, items, item_count, with_entries, HasSizeOf}
use Rattle.fl_arena.specs.Cursors.{cursor_at, index_of, item_of}
use Rattle.fl_arena.specs.declared.cursors.Cursor.{Cursor}

pub map-insert : {A B : Type 0} (f : A → B) (xs : List A) (i : ℕ) (x : A) → map f (insert xs i x) ≡ insert (map f xs) i (f x)
map-insert f xs i x =
    map-append f (take i xs) (x ∷ drop i xs)
    ∙ (ap (λ l. l ++ f x ∷ map f (drop i xs)) (sym (take-map f i xs))
    ∙ ap (λ l. take i (map f xs) ++ f x ∷ l) (sym (drop-map f i xs)))

map-remove : {A B : Type 0} (f : A → B) (xs : List A) (i : ℕ) → map f (remove xs i) ≡ remove (map f xs) i
map-remove f xs i =
    map-append f (take i xs) (drop (suc i) xs)
    ∙ (ap (λ l. l ++ map f (drop (suc i) xs)) (sym (take-map f i xs))
    ∙ ap (λ l. take i (map f xs) ++ l) (sym (drop-map f (suc i) xs)))

insert-end : {A : Type 0} (xs : List A) (i : ℕ) (x : A) → length xs ≤ i → insert xs i x ≡ xs ++ x ∷ []
insert-end xs i x past = ap (λ l. l ++ x ∷ drop i xs) (take_all i xs past) ∙ ap (λ l. xs ++ x ∷ l) (drop_all i xs past)

some_entry : {A : Type 0} (xs : List A) (i : ℕ) → i < length xs → (x : A) × (slice_get xs i ≡ Some x)
some_entry [] i h = absurd (omega arith)
some_entry (x ∷ xs) zero h = (x, refl)
some_entry (x ∷ xs) (suc i) h = some_entry xs i (omega arith)

module _ {T : Type 0} where
  -- the chain that was given new entries has them
  pub entries-with_same : (a : Chains T) (c : ℕ) (es : List (Entry T)) → c < length a.chains → entries (with_entries a c es) c ≡ es
  entries-with_same a c es within = get_or-set_same a.chains c es [] within

  -- every other chain is as it was
  pub entries-with_other : (a : Chains T) (c d : ℕ) (es : List (Entry T)) → d ≢ c → entries (with_entries a c es) d ≡ entries a d
  entries-with_other a c d es apart = get_or-set_other a.chains c d es [] apart

  -- the number of items changes as that chain's length does
  pub item_count-with : (a : Chains T) (c : ℕ) (es : List (Entry T)) → c < length a.chains →
      item_count (with_entries a c es) + length (entries a c) ≡ item_count a + length es
  item_count-with a c es within = sum_by-set length a.chains c es [] within

  -- the items of the chain after an insert, a remove and a change
  pub items-insert : (a : Chains T) (c i : ℕ) (e : Entry T) → c < length a.chains →
      items (with_entries a c (insert (entries a c) i e)) c ≡ insert (items a c) i e.item
  items-insert a c i e within =
      ap (map (λ (x : Entry T). x.item)) (entries-with_same a c (insert (entries a c) i e) within)
      ∙ map-insert (λ (x : Entry T). x.item) (entries a c) i e

  pub items-remove : (a : Chains T) (c i : ℕ) → c < length a.chains → items (with_entries a c (remove (entries a c) i)) c ≡ remove (items a c) i
  items-remove a c i within =
      ap (map (λ (x : Entry T). x.item)) (entries-with_same a c (remove (entries a c) i) within)
      ∙ map-remove (λ (x : Entry T). x.item) (entries a c) i

  pub items-set : (a : Chains T) (c i : ℕ) (e : Entry T) → c < length a.chains → items (with_entries a c (set (entries a c) i e)) c ≡ set (items a c) i e.item
  items-set a c i e within =
      ap (map (λ (x : Entry T). x.item)) (entries-with_same a c (set (entries a c) i e) within)
      ∙ map-set (λ (x : Entry T). x.item) (entries a c) i e

  pub length-items : (a : Chains T) (c : ℕ) → length (items a c) ≡ length (entries a c)
  length-items a c = length-map (entries a c) (λ (x : Entry T). x.item)

  -- the cursor at an index stands at that index, and at the item there
  pub index_of-at : (a : Chains T) (c i : ℕ) → i ≤ length (items a c) → index_of a (cursor_at a c i) ≡ i
  index_of-at a c i le =
      elim (cases_lt i (length (entries a c))) [
        | inl within ↦
            let e = some_entry (entries a c) i within in
            rw (ap (option_map (λ (x : Entry T). x.slot)) e.1) refl
        | inr past ↦
            let none = slice_get_past (entries a c) i past in
            rw (ap (option_map (λ (x : Entry T). x.slot)) none) (omega (arith, length-items a c))
      ]

  pub item_of-at : (a : Chains T) (c i : ℕ) → item_of a (cursor_at a c i) ≡ slice_get (items a c) i
  item_of-at a c i =
      elim (cases_lt i (length (entries a c))) [
        | inl within ↦
            let e = some_entry (entries a c) i within in
            rw (ap (option_map (λ (x : Entry T). x.slot)) e.1) refl
        | inr past ↦
            let none = slice_get_past (entries a c) i past in
            rw (ap (option_map (λ (x : Entry T). x.slot)) none)
            (sym (slice_get-map (λ (x : Entry T). x.item) (entries a c) i ∙ ap (option_map (λ (x : Entry T). x.item)) none))
      ]

  -- with other entries in one chain there are as many chains and slots
  pub HasSizeOf-with : (a new : Chains T) (c : ℕ) (es : List (Entry T)) → new ≡ with_entries a c es → HasSizeOf a new
  HasSizeOf-with a new c es e = rw e (record { chains = length-set a.chains c es; slots = refl })

  -- a cursor at an index of a chain stands at the next one after a step
  pub stepped_at : (a : Chains T) (c i : ℕ) (cursor next : Cursor) → cursor ≡ cursor_at a c i → next ≡ cursor_at a cursor.chain (cursor.index + 1) →
      next ≡ cursor_at a c (i + 1)
  stepped_at a c i cursor next here on = on ∙ ap (λ (x : Cursor). cursor_at a x.chain (x.index + 1)) here

  -- what is put before such a cursor is put in at its index
  insert_where : (a : Chains T) (c i : ℕ) (x : T) → insert (items a c) (index_of a (cursor_at a c i)) x ≡ insert (items a c) i x
  insert_where a c i x =
      elim (cases_lt i (length (entries a c))) [
        | inl within ↦ ap (λ j. insert (items a c) j x) (index_of-at a c i (omega (arith, length-items a c)))
        | inr past ↦
            let none = slice_get_past (entries a c) i past in
            let long = length-items a c in
            rw (ap (option_map (λ (x : Entry T). x.slot)) none)
            (insert-end (items a c) (length (entries a c)) x (omega (arith, long)) ∙ sym (insert-end (items a c) i x (omega (arith, long, past))))
      ]

  pub inserted_at : (a : Chains T) (c i : ℕ) (cursor : Cursor) (e : Entry T) → cursor ≡ cursor_at a c i → cursor.chain < length a.chains
      → items (with_entries a cursor.chain (insert (entries a cursor.chain) (index_of a cursor) e)) c ≡ insert (items a c) i e.item
  inserted_at a c i cursor e here within =
      let chain : cursor.chain ≡ c = ap (λ (k : Cursor). k.chain) here in
      (λ j. items (with_entries a (chain j) (insert (entries a (chain j)) (index_of a (here j)) e)) c)
      ∙ items-insert a c (index_of a (cursor_at a c i)) e (subst (λ (d : ℕ). d < length a.chains) chain within)
      ∙ insert_where a c i e.item
