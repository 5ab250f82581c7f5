-- Each call of the arena, from what it read to what it wrote.
use Rattle.std.proofs.Common.{◌≡◌, ℕ, zero, suc, ◌+◌, ◌-◌, ◌<◌, ◌≤◌, ◌^◌, List, [], ◌∷◌, length, set, get_or, replicate}
use Rattle.std.proofs.Common.{sum_by, IfSome, Option, Some, None}
use Rattle.std.proofs.Common.{slice_get, refl, sym, ◌∙◌, ap, subst, arith, add-one}
use Rattle.std.specs.List.{insert, remove}
use Rattle.std.proofs.lemmas.List.{length-replicate}
use Rattle.std.proofs.lemmas.List.Sums.{sum_by-cons}
use Rattle.std.proofs.lemmas.Option.{slice_get_read, slice_get_within, slice_get-get_or, none-some}
use Rattle.fl_arena.specs.Chains.{Entry, Chains, entries, slot_at, with_entries}
use Rattle.fl_arena.specs.Cursors.{cursor_at, IsInPlace, index_of, item_of, with_item, without}
use Rattle.fl_arena.specs.Inside.Links.{link_at, link_before, item_in, held_with, relinked, ends_with, ends_without, IsSpare, SpellsChain}
use Rattle.fl_arena.specs.Inside.Links.{SpellsFree, AreFree, Spells, spelled}
use Rattle.fl_arena.specs.declared.cursors.Cursor.{Cursor}
use Rattle.fl_arena.specs.Inside.Held.{Held, Free, Taken}
use Rattle.fl_arena.specs.declared.nodes.Member.{Member}
use Rattle.fl_arena.specs.declared.nodes.Ends.{Ends}
use Rattle.fl_arena.proofs.ChainLaws.{entries-with_same}
use Rattle.fl_arena.proofs.PlaceLemmas.{linked_at}
use Rattle.fl_arena.proofs.WalkLemmas.{spelled_is}
use Rattle.fl_arena.proofs.CursorLemmas.{is_at, slot_there, length-entries, linked_within}
use Rattle.fl_arena.proofs.InsertLemmas.{Spells-insert, no_link, link_at-insert_at}
use Rattle.fl_arena.proofs.RemoveLemmas.{Spells-remove, link_at-remove_above}
use Rattle.fl_arena.proofs.SetLemmas.{Spells-set}

-- what was read at an index of the ends
pub end_read : (ends : List Ends) (c : ℕ) (e : Ends) → c < length ends → e ≡ get_or ends c e → slice_get ends c ≡ Some e
end_read ends c e within read = slice_get_read ends (length ends) c e refl within read

no_items : (T : Type 0) (n : ℕ) → sum_by (λ (es : List (Entry T)). length es) (replicate n []) ≡ 0
no_items T zero = refl
no_items T (suc n) = omega (arith, no_items T n, sum_by-cons (λ (es : List (Entry T)). length es) [] (replicate n []))

module _ {T : Type 0} where
  -- the links spell the value that contracts see
  pub spells_value : (nodes : List (Held T)) (ends : List Ends) (spare : Option ℕ) (free : ℕ) (a : Chains T) →
      Spells nodes ends spare free (spelled nodes ends) → spelled nodes ends ≡ a → Spells nodes ends spare free a
  spells_value nodes ends spare free a h e = subst (λ (x : Chains T). Spells nodes ends spare free x) e h

  -- and the other way round
  pub spells_own : (nodes : List (Held T)) (ends : List Ends) (spare : Option ℕ) (free : ℕ) (a : Chains T) → Spells nodes ends spare free a →
      Spells nodes ends spare free (spelled nodes ends)
  spells_own nodes ends spare free a h = subst (λ (x : Chains T). Spells nodes ends spare free x) (sym (spelled_is nodes ends spare free a h)) h

module _ {T : Type 0} (nodes : List (Held T)) (ends : List Ends) (spare : Option ℕ) (free : ℕ) (a : Chains T) (h : Spells nodes ends spare free a)
    (cursor : Cursor) (in_place : IsInPlace a cursor) where
  pub got : (slot : ℕ) (m : Member T) → cursor.slot ≡ Some slot → slice_get nodes slot ≡ Some (Taken m) → Some m.item ≡ item_of a cursor
  got slot m named read =
      let at = is_at nodes ends spare free a h cursor.chain cursor.index slot m (slot_there a cursor slot named in_place) read in
      rw named (sym at.item)

  pub stepped : (slot : ℕ) (m : Member T) → cursor.slot ≡ Some slot → slice_get nodes slot ≡ Some (Taken m) →
      record { chain = cursor.chain; index = cursor.index + 1; slot = m.next } ≡ cursor_at a cursor.chain (cursor.index + 1)
  stepped slot m named read =
      let at = is_at nodes ends spare free a h cursor.chain cursor.index slot m (slot_there a cursor slot named in_place) read in
      let next : m.next ≡ slot_at a cursor.chain (cursor.index + 1) = at.next ∙ ap (slot_at a cursor.chain) (sym (add-one cursor.index)) in
      ap (λ (l : Option ℕ). record { chain = cursor.chain; index = cursor.index + 1; slot = l }) next

  -- where the cursor stands, in the links of its chain
  pub stands : cursor.chain < length a.chains →
      (cursor.slot ≡ link_at (entries a cursor.chain) (index_of a cursor)) × (index_of a cursor ≤ length (entries a cursor.chain))
  stands in_chains = by_slot cursor.slot refl
    where
      by_slot : (o : Option ℕ) → cursor.slot ≡ o →
          (cursor.slot ≡ link_at (entries a cursor.chain) (index_of a cursor)) × (index_of a cursor ≤ length (entries a cursor.chain))
      by_slot None named = rw named (sym (no_link (entries a cursor.chain) (length (entries a cursor.chain)) (omega arith)), omega arith)
      by_slot (Some slot) named =
          let there = slot_there a cursor slot named in_place in
          let at = linked_at nodes ends spare free a h cursor.chain cursor.index slot there in
          let m = is_at nodes ends spare free a h cursor.chain cursor.index slot _ there at.linked in
          let within = m.in_chain in
          rw named (sym there, omega arith)

  -- the slot before a place and its index, read from the node at the cursor
  pub place_before : (slot : ℕ) (m : Member T) → cursor.slot ≡ Some slot → slice_get nodes slot ≡ Some (Taken m) →
      (m.previous ≡ link_before (entries a cursor.chain) (index_of a cursor)) × (cursor.index ≡ index_of a cursor)
  place_before slot m named read =
      let there = is_at nodes ends spare free a h cursor.chain cursor.index slot m (slot_there a cursor slot named in_place) read in
      let index : index_of a cursor ≡ cursor.index = rw named refl in
      rw index (there.previous, refl)

  -- or from the ends of its chain
  pub place_last : (e : Ends) → cursor.slot ≡ None → slice_get ends cursor.chain ≡ Some e →
      (e.last ≡ link_before (entries a cursor.chain) (index_of a cursor)) × (e.len ≡ index_of a cursor)
  place_last e named found =
      let spells = h.each cursor.chain e found in
      let index : index_of a cursor ≡ length (entries a cursor.chain) = rw named refl in
      rw index (spells.last, spells.len)

module _ {T : Type 0} where
  pub inserted : (nodes : List (Held T)) (ends : List Ends) (free : ℕ) (a : Chains T) (c i slot : ℕ) (y : T) (next before after : Option ℕ) (e end : Ends)
      (now : List (Held T)) → Spells nodes ends (Some slot) free a → c < length a.chains → i ≤ length (entries a c) → slice_get nodes slot ≡ Some (Free next) →
      slice_get ends c ≡ Some e → before ≡ link_before (entries a c) i → after ≡ link_at (entries a c) i →
      now ≡ set (relinked nodes before after (Some slot) (Some slot)) slot (Taken (record { chain = c; previous = before; next = after; item = y })) →
      end ≡ ends_with e before after slot →
      Spells now (set ends c end) next (free - 1) (with_entries a c (insert (entries a c) i (record { slot = slot; item = y })))
  inserted nodes ends free a c i slot y next before after e end now h in_chains within read found back on written ended =
      let whole = Spells-insert nodes ends free a c i slot y next e h in_chains within read found in
      rw (written, ended, back, on) whole

  pub removed : (nodes : List (Held T)) (ends : List Ends) (spare : Option ℕ) (free : ℕ) (a : Chains T) (c i slot : ℕ) (before after : Option ℕ) (e end : Ends)
      (now : List (Held T)) → Spells nodes ends spare free a → slot_at a c i ≡ Some slot → slot < length nodes → c < length a.chains →
      i < length (entries a c) → slice_get ends c ≡ Some e → before ≡ link_before (entries a c) i → after ≡ link_at (entries a c) (suc i) →
      now ≡ set (relinked nodes before after before after) slot (Free spare) → end ≡ ends_without e before after →
      Spells now (set ends c end) (Some slot) (free + 1) (with_entries a c (remove (entries a c) i))
  removed nodes ends spare free a c i slot before after e end now h there in_nodes in_chains within found back on written ended =
      let whole = Spells-remove nodes ends spare free a h c i slot there e found in_nodes in_chains within in
      rw (written, ended, back, on) whole

  -- the cursor after a remove stands at the entry that came next
  pub cursor_after : (a : Chains T) (c i : ℕ) (next : Option ℕ) → c < length a.chains → next ≡ slot_at a c (suc i) →
      record { chain = c; index = i; slot = next } ≡ cursor_at (without a c i) c i
  cursor_after a c i next in_chains on =
      let same : entries (without a c i) c ≡ remove (entries a c) i = entries-with_same a c (remove (entries a c) i) in_chains in
      let slot : next ≡ slot_at (without a c i) c i =
      on ∙ (sym (link_at-remove_above (entries a c) i i (omega arith)) ∙ ap (λ (es : List (Entry T)). link_at es i) (sym same)) in
      ap (λ (l : Option ℕ). record { chain = c; index = i; slot = l }) slot

  changed : (nodes : List (Held T)) (ends : List Ends) (spare : Option ℕ) (free : ℕ) (a : Chains T) (cursor : Cursor) (slot at : ℕ) (y : T) (m : Member T) →
      Spells nodes ends spare free a → IsInPlace a cursor → cursor.slot ≡ Some slot → slice_get nodes slot ≡ Some (Taken m) → at ≡ slot →
      Spells (set nodes at (Taken (record m { item = y }))) ends spare free (with_item a cursor y)
  changed nodes ends spare free a cursor slot at y m h in_place named read same =
      let there = slot_there a cursor slot named in_place in
      let place = is_at nodes ends spare free a h cursor.chain cursor.index slot m there read in
      let in_chains = place.in_chains in
      let found = slice_get-get_or ends cursor.chain (record { first = None; last = None; len = 0 }) (let chains = h.chains in omega arith) in
      rw (same, named) (Spells-set nodes ends spare free a h cursor.chain cursor.index slot y m there read _ found in_chains)

  -- the node at a cursor, as it was read
  pub record IsRead (nodes : List (Held T)) (a : Chains T) (cursor : Cursor) (slot : ℕ) (n : Held T) : Type 0 where
    pub member : Member T
    pub there : slice_get nodes slot ≡ Some (Taken member)
    pub is : n ≡ Taken member
    pub item : item_of a cursor ≡ item_in n

  pub node_read : (nodes : List (Held T)) (ends : List Ends) (spare : Option ℕ) (free : ℕ) (a : Chains T) (cursor : Cursor) (slot at : ℕ) (n : Held T) →
      Spells nodes ends spare free a → IsInPlace a cursor → cursor.slot ≡ Some slot → at ≡ slot → n ≡ get_or nodes at n → IsRead nodes a cursor slot n
  node_read nodes ends spare free a cursor slot at n h in_place named same read =
      let there = (linked_at nodes ends spare free a h cursor.chain cursor.index slot (slot_there a cursor slot named in_place)).linked in
      let seen : slice_get nodes slot ≡ Some n = slice_get_read nodes (length nodes) slot n refl (slice_get_within nodes slot _ there)
      (subst (λ (i : ℕ). n ≡ get_or nodes i n) same read) in
      let is : n ≡ Taken _ = let both = sym seen ∙ there in cc in
      record {
        member = _;
        there = there;
        is = is;
        item = sym (got nodes ends spare free a h cursor in_place slot _ named there) ∙ sym (ap item_in is);
      }

  -- the links after another item was left in that node
  pub left : (nodes : List (Held T)) (ends : List Ends) (spare : Option ℕ) (free : ℕ) (a : Chains T) (cursor : Cursor) (slot at : ℕ) (n : Held T) (y : T) →
      Spells nodes ends spare free a → IsInPlace a cursor → cursor.slot ≡ Some slot → at ≡ slot → n ≡ get_or nodes at n →
      Spells (set nodes at (held_with n y)) ends spare free (with_item a cursor y)
  left nodes ends spare free a cursor slot at n y h in_place named same read =
      let node = node_read nodes ends spare free a cursor slot at n h in_place named same read in
      subst (λ (x : Held T). Spells (set nodes at (held_with x y)) ends spare free (with_item a cursor y)) (sym node.is)
      (changed nodes ends spare free a cursor slot at y node.member h in_place named node.there same)

  empty_at : (nodes : List (Held T)) (n c d : ℕ) (e : Ends) → slice_get (replicate n (record { first = None; last = None; len = 0 })) c ≡ Some e →
      SpellsChain nodes d e (get_or {A = List (Entry T)} (replicate n []) c [])
  empty_at nodes zero c d e found = absurd (none-some e found)
  empty_at nodes (suc n) zero d e found =
      let same : e ≡ record { first = None; last = None; len = 0 } = let both = sym found in cc in
      rw same (record { first = refl; last = refl; len = refl; linked = λ i x none. absurd (none-some x none) })
  empty_at nodes (suc n) (suc c) d e found = empty_at nodes n c d e found

  -- an arena as it is made
  pub made : (nodes : List (Held T)) (spare : Option ℕ) (slots count : ℕ) → AreFree nodes spare slots → slots ≤ 2 ^ 16 → count ≤ 2 ^ 16 →
      Spells nodes (replicate count (record { first = None; last = None; len = 0 })) spare slots (record { chains = replicate count []; slots = slots })
  made nodes spare slots count h few_slots few_chains = record {
    slots = sym h.len;
    chains = length-replicate count [] ∙ sym (length-replicate {A = Ends} count (record { first = None; last = None; len = 0 }));
    each = λ c e found. empty_at nodes count c c e found;
    owned = λ slot m read. absurd (h.untaken slot m read);
    free_list = h.free_list;
    free_nodes = h.counted;
    count = let long = h.len in omega (arith, no_items T count);
    few_nodes = let long = h.len in omega arith;
    few_chains = omega (arith, length-replicate {A = Ends} count (record { first = None; last = None; len = 0 }));
  }

  -- the first slot of the free list is free
  pub spare_is_free : (nodes : List (Held T)) (spare : Option ℕ) (free slot : ℕ) → spare ≡ Some slot → SpellsFree nodes spare free → IsSpare nodes slot
  spare_is_free nodes spare zero slot named h = let none = sym h ∙ named in cc
  spare_is_free nodes spare (suc free) slot named h =
      let same : h.0 ≡ slot = let both = sym h.2 ∙ named in cc in
      (h.1, subst (λ (s : ℕ). slice_get nodes s ≡ Some (Free h.1)) same h.3)

  -- while a slot is free, no chain fills the slots
  pub room : (nodes : List (Held T)) (ends : List Ends) (spare : Option ℕ) (free : ℕ) (a : Chains T) → Spells nodes ends spare free a →
      (c : ℕ) (e : Ends) (slot : ℕ) → slice_get ends c ≡ Some e → spare ≡ Some slot → e.len < 65536
  room nodes ends spare free a h c e slot found named =
      let some = some_free spare free slot named h.free_list in
      let long = (h.each c e found).len in
      let count = h.count in
      let few = h.few_nodes in
      omega (arith, length-entries a c)
    where
      some_free : (link : Option ℕ) (n t : ℕ) → link ≡ Some t → SpellsFree nodes link n → 0 < n
      some_free link zero t named p = let none = sym p ∙ named in cc
      some_free link (suc n) t named p = omega arith

  -- the cursor after an insert stands at the new entry
  pub cursor_at_new : (a : Chains T) (c i : ℕ) (e : Entry T) → c < length a.chains → i ≤ length (entries a c) →
      record { chain = c; index = i; slot = Some e.slot } ≡ cursor_at (with_entries a c (insert (entries a c) i e)) c i
  cursor_at_new a c i e in_chains within =
      let same : entries (with_entries a c (insert (entries a c) i e)) c ≡ insert (entries a c) i e =
      entries-with_same a c (insert (entries a c) i e) in_chains in
      let slot : Some e.slot ≡ slot_at (with_entries a c (insert (entries a c) i e)) c i =
      sym (link_at-insert_at (entries a c) i e within) ∙ ap (λ (es : List (Entry T)). link_at es i) (sym same) in
      ap (λ (l : Option ℕ). record { chain = c; index = i; slot = l }) slot

  -- a link of a chain names a slot of the arena
  pub within_slots : (nodes : List (Held T)) (ends : List Ends) (spare : Option ℕ) (free : ℕ) (a : Chains T) → Spells nodes ends spare free a →
      (c i : ℕ) (link : Option ℕ) → link ≡ slot_at a c i → IfSome link (λ slot. slot < a.slots)
  within_slots nodes ends spare free a h c i link e = rw (e, h.slots) (linked_within nodes ends spare free a h c i)

  -- the last slot of a chain, if it has one
  last_link : (es : List (Entry T)) → link_before es (length es) ≡ link_at es (length es - 1)
  last_link [] = refl
  last_link (e ∷ es) = ap (link_at (e ∷ es)) (omega arith)

  pub last_slot : (nodes : List (Held T)) (ends : List Ends) (spare : Option ℕ) (free : ℕ) (a : Chains T) → Spells nodes ends spare free a →
      (c : ℕ) (e : Ends) → slice_get ends c ≡ Some e → e.last ≡ slot_at a c (length (entries a c) - 1)
  last_slot nodes ends spare free a h c e found = (h.each c e found).last ∙ last_link (entries a c)

  pub last_read : (nodes : List (Held T)) (ends : List Ends) (spare : Option ℕ) (free : ℕ) (a : Chains T) → Spells nodes ends spare free a →
      (c : ℕ) (e : Ends) → slice_get ends c ≡ Some e → (i : ℕ) → i ≡ e.len - 1 →
      record { chain = c; index = i; slot = e.last } ≡ cursor_at a c (length (entries a c) - 1)
  last_read nodes ends spare free a h c e found i is =
      let index : i ≡ length (entries a c) - 1 = is ∙ ap (λ n. n - 1) (h.each c e found).len in
      let slot = last_slot nodes ends spare free a h c e found in
      λ t. record { chain = c; index = index t; slot = slot t }
