-- A shift: a remove, and then an insert in the slot that it freed.
use Rattle.std.proofs.Common.{◌≡◌, ◌≢◌, ℕ, zero, suc, ◌+◌, ◌-◌, ◌<◌, ◌≤◌, List, [], ◌∷◌, map, length, set, Option, Some}
use Rattle.std.proofs.Common.{None, slice_get, refl, sym, ◌∙◌, ap}
use Rattle.std.proofs.Common.{arith}
use Rattle.std.specs.List.{insert, remove}
use Rattle.std.proofs.lemmas.List.{set-set, length-set}
use Rattle.std.proofs.lemmas.Option.{slice_get_within}
use Rattle.fl_arena.specs.Chains.{Entry, Chains, entries, items, slot_at, with_entries, free_count, HasSizeOf}
use Rattle.fl_arena.specs.Cursors.{cursor_at, index_of, without}
use Rattle.fl_arena.specs.Inside.Links.{alter, alter_link, with_links, with_previous, with_next, link_at, link_before}
use Rattle.fl_arena.specs.Inside.Links.{relinked}
use Rattle.fl_arena.specs.Inside.Links.{ends_with, ends_without, Spells}
use Rattle.fl_arena.specs.declared.cursors.Cursor.{Cursor}
use Rattle.fl_arena.specs.Inside.Held.{Held, Free, Taken}
use Rattle.fl_arena.specs.declared.nodes.Member.{Member}
use Rattle.fl_arena.specs.declared.nodes.Ends.{Ends}
use Rattle.fl_arena.proofs.ReadLemmas.{slice_get-set_same}
use Rattle.fl_arena.proofs.PlaceLemmas.{linked_at, same_member}
use Rattle.fl_arena.proofs.ChainLaws.{entries-with_same, entries-with_other, map-insert, items-remove, inserted_at}
use Rattle.fl_arena.proofs.LinkLemmas.{length-relinked, taken_in_relinked}
use Rattle.fl_arena.proofs.NodeLemmas.{alter-set}
use Rattle.fl_arena.proofs.CursorLemmas.{is_at}
use Rattle.fl_arena.proofs.CallLemmas.{inserted, removed, room, cursor_after, cursor_at_new}

module _ {X : Type 0} where
  -- a function applied anywhere to a list with another element at an index leaves some element there
  alter-written : (f : X → X) (xs : List X) (i j : ℕ) (x : X) → (y : X) × (alter f (set xs i x) j ≡ set (alter f xs j) i y)
  alter-written f [] i j x = (x, refl)
  alter-written f (z ∷ xs) zero zero x = (f x, refl)
  alter-written f (z ∷ xs) zero (suc j) x = (x, refl)
  alter-written f (z ∷ xs) (suc i) zero x = (x, refl)
  alter-written f (z ∷ xs) (suc i) (suc j) x =
      let rest = alter-written f xs i j x in
      (rest.0, ap (λ (l : List X). z ∷ l) rest.1)

  alter_link-written : (f : X → X) (xs : List X) (link : Option ℕ) (i : ℕ) (x : X) → (y : X) × (alter_link f (set xs i x) link ≡ set (alter_link f xs link) i y)
  alter_link-written f xs None i x = (x, refl)
  alter_link-written f xs (Some j) i x = alter-written f xs i j x

module _ {T : Type 0} where
  -- what a slot held before its links were written doesn't matter once it is written itself
  relinked-written : (nodes : List (Held T)) (slot : ℕ) (x y : Held T) (before after previous next : Option ℕ) →
      set (relinked (set nodes slot x) before after previous next) slot y ≡ set (relinked nodes before after previous next) slot y
  relinked-written nodes slot x y before after previous next =
      let first = alter_link-written (with_next next) nodes before slot x in
      let second = alter_link-written (with_previous previous) (alter_link (with_next next) nodes before) after slot first.0 in
      ap (λ (ns : List (Held T)). set (alter_link (with_previous previous) ns after) slot y) first.1
      ∙ (ap (λ (ns : List (Held T)). set ns slot y) second.1
      ∙ set-set (relinked nodes before after previous next) slot second.0 y)

  -- a node that is linked over reads as one that was taken out and put in
  over_is_out_and_in : (nodes : List (Held T)) (c slot : ℕ) (m : Member T) (x : Held T) (before after : Option ℕ) → slice_get nodes slot ≡ Some (Taken m) →
      alter (with_links c before after) (relinked nodes before after (Some slot) (Some slot)) slot
      ≡ set (relinked (set nodes slot x) before after (Some slot) (Some slot)) slot
      (Taken (record { chain = c; previous = before; next = after; item = m.item }))
  over_is_out_and_in nodes c slot m x before after read =
      alter-set (with_links c before after) (relinked nodes before after (Some slot) (Some slot)) slot _
      (taken_in_relinked nodes before after (Some slot) (Some slot) slot m read)
      ∙ sym (relinked-written nodes slot x (Taken (record { chain = c; previous = before; next = after; item = m.item })) before after (Some slot) (Some slot))

  -- the chains after a shift
  abbrev pub over : Chains T → ℕ → ℕ → ℕ → ℕ → Entry T → Chains T
  over a c i d j e = with_entries (without a c i) d (insert (entries a d) j e)

module _ {T : Type 0} (nodes : List (Held T)) (ends : List Ends) (spare : Option ℕ) (free : ℕ) (a : Chains T) (h : Spells nodes ends spare free a)
    (c i d j slot : ℕ) (m : Member T) (there : slot_at a c i ≡ Some slot) (read : slice_get nodes slot ≡ Some (Taken m)) (apart : c ≢ d)
    (in_chains : d < length a.chains) (within : j ≤ length (entries a d)) where
  -- the other chain is as before once the item has left its own
  still : entries (without a c i) d ≡ entries a d
  still = entries-with_other a c d (remove (entries a c) i) (λ e. apart (sym e))

  still_within : d < length (without a c i).chains
  still_within = omega (arith, length-set a.chains c (remove (entries a c) i))

  -- the links once the item has left its chain
  left : (before after : Option ℕ) (e end : Ends) → slice_get ends c ≡ Some e → before ≡ link_before (entries a c) i →
      after ≡ link_at (entries a c) (suc i) → end ≡ ends_without e before after →
      Spells (set (relinked nodes before after before after) slot (Free spare)) (set ends c end) (Some slot) (free + 1) (without a c i)
  left before after e end found back on ended =
      let at = is_at nodes ends spare free a h c i slot m there read in
      removed nodes ends spare free a c i slot before after e end _ h there at.in_nodes at.in_chains at.in_chain found back on refl ended

  -- the chain that it joins has room for it
  pub room_to_join : (before after : Option ℕ) (e end f : Ends) → slice_get ends c ≡ Some e → before ≡ link_before (entries a c) i →
      after ≡ link_at (entries a c) (suc i) → end ≡ ends_without e before after → slice_get (set ends c end) d ≡ Some f → f.len < 65536
  room_to_join before after e end f found back on ended other =
      room _ (set ends c end) (Some slot) (free + 1) (without a c i) (left before after e end found back on ended) d f slot other refl

  -- the links after a shift
  pub shifted : (before after previous next : Option ℕ) (e end f last : Ends) (now : List (Held T)) → slice_get ends c ≡ Some e →
      before ≡ link_before (entries a c) i → after ≡ link_at (entries a c) (suc i) → end ≡ ends_without e before after →
      slice_get (set ends c end) d ≡ Some f → previous ≡ link_before (entries a d) j → next ≡ link_at (entries a d) j → last ≡ ends_with f previous next slot →
      now ≡ alter (with_links d previous next) (relinked (relinked nodes before after before after) previous next (Some slot) (Some slot)) slot →
      Spells now (set (set ends c end) d last) spare free (over a c i d j (record { slot = slot; item = m.item }))
  shifted before after previous next e end f last now found back on ended other back_there on_there lasts written =
      let outside = relinked nodes before after before after in
      let freed : slice_get (set outside slot (Free spare)) slot ≡ Some (Free spare) =
      slice_get-set_same outside slot (Free spare)
      (omega (arith, slice_get_within nodes slot (Taken m) read, length-relinked nodes before after before after)) in
      let whole =
      inserted (set outside slot (Free spare)) (set ends c end) (free + 1) (without a c i) d j slot m.item spare previous next f last now
      (left before after e end found back on ended) still_within (rw still within) freed other (rw still back_there) (rw still on_there)
      (written ∙ over_is_out_and_in outside d slot _ (Free spare) previous next (taken_in_relinked nodes before after before after slot m read)) lasts in
      let same : free + 1 - 1 ≡ free = omega arith in
      rw (← same, ← still) whole

  pub moved_entry : slice_get (entries a c) i ≡ Some (record { slot = slot; item = m.item })
  moved_entry =
      let at = linked_at nodes ends spare free a h c i slot there in
      let same = same_member nodes slot _ m at.linked read in
      at.found
      ∙ (ap (λ (s : ℕ). Some (record { slot = s; item = at.entry.item })) at.slot_is
      ∙ ap (λ (x : Member T). Some (record { slot = slot; item = x.item })) same)

  is_item : (x : T) → slice_get (items a c) i ≡ Some x → m.item ≡ x
  is_item x found =
      let at = is_at nodes ends spare free a h c i slot m there read in
      let both = sym at.item ∙ found in cc

  -- what each chain has after a shift
  pub items_left : items (over a c i d j (record { slot = slot; item = m.item })) c ≡ remove (items a c) i
  items_left =
      let at = is_at nodes ends spare free a h c i slot m there read in
      ap (map (λ (x : Entry T). x.item))
      (entries-with_other (without a c i) d c (insert (entries a d) j (record { slot = slot; item = m.item })) apart)
      ∙ items-remove a c i at.in_chains

  pub items_joined : (x : T) → slice_get (items a c) i ≡ Some x →
      items (over a c i d j (record { slot = slot; item = m.item })) d ≡ insert (items a d) j x
  items_joined x found =
      ap (map (λ (y : Entry T). y.item))
      (entries-with_same (without a c i) d (insert (entries a d) j (record { slot = slot; item = m.item })) still_within)
      ∙ (map-insert (λ (y : Entry T). y.item) (entries a d) j (record { slot = slot; item = m.item })
      ∙ ap (insert (items a d) j) (is_item x found))

  pub joined_at : (to : Cursor) (k l : ℕ) (x : T) → to ≡ cursor_at a k l → to.chain ≡ d → index_of a to ≡ j → slice_get (items a c) i ≡ Some x →
      items (over a c i d j (record { slot = slot; item = m.item })) k ≡ insert (items a k) l x
  joined_at to k l x at chain index found =
      let e : Entry T = record { slot = slot; item = m.item } in
      let here : k ≡ d = sym (ap (λ (y : Cursor). y.chain) at) ∙ chain in
      let one : items (over a c i d j e) k ≡ items (with_entries a d (insert (entries a d) j e)) k =
      rw here (ap (map (λ (y : Entry T). y.item)) (entries-with_same (without a c i) d (insert (entries a d) j e) still_within
      ∙ sym (entries-with_same a d (insert (entries a d) j e) in_chains))) in
      one
      ∙ ((λ t. items (with_entries a (sym chain t) (insert (entries a (sym chain t)) (sym index t) e)) k)
      ∙ (inserted_at a k l to e at (rw chain in_chains)
      ∙ ap (insert (items a k) l) (is_item x found)))

  pub others_kept : (b : ℕ) → b ≢ c → b ≢ d → entries (over a c i d j (record { slot = slot; item = m.item })) b ≡ entries a b
  others_kept b not_here not_there =
      entries-with_other (without a c i) d b (insert (entries a d) j (record { slot = slot; item = m.item })) not_there
      ∙ entries-with_other a c b (remove (entries a c) i) not_here

  pub size_kept : HasSizeOf a (over a c i d j (record { slot = slot; item = m.item }))
  size_kept = record {
    chains = length-set (without a c i).chains d (insert (entries a d) j (record { slot = slot; item = m.item }))
        ∙ length-set a.chains c (remove (entries a c) i);
    slots = refl;
  }

  -- where the cursors stand after a shift
  pub from_after : (after : Option ℕ) → after ≡ link_at (entries a c) (suc i) →
      record { chain = c; index = i; slot = after } ≡ cursor_at (over a c i d j (record { slot = slot; item = m.item })) c i
  from_after after on =
      let at = is_at nodes ends spare free a h c i slot m there read in
      cursor_after a c i after at.in_chains on
      ∙ ap (λ (es : List (Entry T)). record { chain = c; index = i; slot = link_at es i })
      (sym (entries-with_other (without a c i) d c (insert (entries a d) j (record { slot = slot; item = m.item })) apart))

  pub to_after : record { chain = d; index = j; slot = Some slot } ≡ cursor_at (over a c i d j (record { slot = slot; item = m.item })) d j
  to_after =
      cursor_at_new (without a c i) d j (record { slot = slot; item = m.item }) still_within (rw still within)
      ∙ ap (λ (es : List (Entry T)). cursor_at (with_entries (without a c i) d (insert es j (record { slot = slot; item = m.item }))) d j) still

module _ {T : Type 0} where
  -- as many slots hold no item
  pub same_free : (nodes now : List (Held T)) (ends last : List Ends) (spare link : Option ℕ) (free : ℕ) (a b : Chains T) → Spells nodes ends spare free a →
      Spells now last link free b → b.slots ≡ a.slots → free_count b ≡ free_count a
  same_free nodes now ends last spare link free a b h k same =
      let x = h.count in
      let y = k.count in
      let p = h.slots in
      let q = k.slots in
      omega arith
