-- A change of one item, from the links before it to the links after it.
use Rattle.std.proofs.Common.{◌≡◌, ◌≢◌, ℕ, zero, suc, ◌<◌, List, [], ◌∷◌, length, set, Option, Some, slice_get, refl}
use Rattle.std.proofs.Common.{sym, ◌∙◌, ap, subst, inl, inr, arith}
use Rattle.std.proofs.Common.{length-set}
use Rattle.std.specs.Option.{option_map}
use Rattle.std.proofs.lemmas.Bool.{cases_eq}
use Rattle.std.proofs.lemmas.List.{set-get_or}
use Rattle.std.proofs.lemmas.Option.{slice_get_within, get_or_from_slice_get}
use Rattle.fl_arena.specs.Chains.{Entry, Chains, entries, slot_at, with_entries}
use Rattle.fl_arena.specs.Inside.Links.{is_free, link_at, link_before, member_of, SpellsChain, IsOnChain, Spells}
use Rattle.fl_arena.specs.Inside.Held.{Held, Free, Taken}
use Rattle.fl_arena.specs.declared.nodes.Member.{Member}
use Rattle.fl_arena.specs.declared.nodes.Ends.{Ends}
use Rattle.fl_arena.proofs.ReadLemmas.{slice_get-set_same, slice_get-set_other}
use Rattle.fl_arena.proofs.PlaceLemmas.{linked_at, same_place, same_member}
use Rattle.fl_arena.proofs.AssembleLemmas.{assembled, on_changed, on_other}
use Rattle.fl_arena.proofs.CountLemmas.{count-set}
use Rattle.fl_arena.proofs.FreeLemmas.{SpellsFree-kept}

module _ {T : Type 0} where
  -- the slots stay where they are
  link_at-set : (es : List (Entry T)) (i j : ℕ) (z : Entry T) → link_at es i ≡ Some z.slot → link_at (set es i z) j ≡ link_at es j
  link_at-set [] i j z h = refl
  link_at-set (e ∷ es) zero zero z h = sym h
  link_at-set (e ∷ es) zero (suc j) z h = refl
  link_at-set (e ∷ es) (suc i) zero z h = refl
  link_at-set (e ∷ es) (suc i) (suc j) z h = link_at-set es i j z h

  link_before-set : (es : List (Entry T)) (i j : ℕ) (z : Entry T) → link_at es i ≡ Some z.slot → link_before (set es i z) j ≡ link_before es j
  link_before-set es i zero z h = refl
  link_before-set es i (suc j) z h = link_at-set es i j z h

  member_of-set : (c : ℕ) (es : List (Entry T)) (i j : ℕ) (z e : Entry T) → link_at es i ≡ Some z.slot → member_of c (set es i z) j e ≡ member_of c es j e
  member_of-set c es i j z e h =
      ap (λ (l : Option ℕ). record { chain = c; previous = l; next = link_at (set es i z) (suc j); item = e.item }) (link_before-set es i j z h)
      ∙ ap (λ (l : Option ℕ). record { chain = c; previous = link_before es j; next = l; item = e.item }) (link_at-set es i (suc j) z h)

module _ {T : Type 0} (nodes : List (Held T)) (ends : List Ends) (spare : Option ℕ) (free : ℕ) (a : Chains T) (h : Spells nodes ends spare free a)
    (c i slot : ℕ) (y : T) (m : Member T) (there : slot_at a c i ≡ Some slot) (read : slice_get nodes slot ≡ Some (Taken m)) where
  was_member : m ≡ record (member_of c (entries a c) i (record { slot = slot; item = m.item })) { item = m.item }
  was_member =
      let at = linked_at nodes ends spare free a h c i slot there in
      let same = same_member nodes slot _ m at.linked read in
      sym same ∙ ap (λ (x : T). record { chain = c; previous = link_before (entries a c) i; next = link_at (entries a c) (suc i); item = x })
      (ap (λ (x : Member T). x.item) same)

  -- an entry elsewhere
  kept_reads : (d j : ℕ) (e : Entry T) → slice_get (entries a d) j ≡ Some e → ((d ≡ c) → (j ≡ i) → ⊥) →
      slice_get (set nodes slot (Taken (record m { item = y }))) e.slot ≡ Some (Taken (member_of d (entries a d) j e))
  kept_reads d j e found apart =
      let at_j : slot_at a d j ≡ Some e.slot = ap (option_map (λ (x : Entry T). x.slot)) found in
      let other : e.slot ≢ slot = λ same.
      let both = same_place nodes ends spare free a h d c slot j i (at_j ∙ ap Some same) there in
      apart both.0 both.1 in
      let at = linked_at nodes ends spare free a h d j e.slot at_j in
      let same : at.entry ≡ e = let both = sym at.found ∙ found in cc in
      slice_get-set_other nodes slot e.slot _ other
      ∙ subst (λ (x : Entry T). slice_get nodes e.slot ≡ Some (Taken (member_of d (entries a d) j x))) same at.linked

  set_reads : slice_get (set nodes slot (Taken (record m { item = y }))) slot ≡ Some (Taken (member_of c (entries a c) i (record { slot = slot; item = y })))
  set_reads =
      slice_get-set_same nodes slot _ (slice_get_within nodes slot _ read)
      ∙ ap (λ (x : Member T). Some (Taken (record x { item = y }))) was_member

  chain_reads : (j : ℕ) (e : Entry T) → slice_get (set (entries a c) i (record { slot = slot; item = y })) j ≡ Some e →
      slice_get (set nodes slot (Taken (record m { item = y }))) e.slot
      ≡ Some (Taken (member_of c (set (entries a c) i (record { slot = slot; item = y })) j e))
  chain_reads j e found =
      let es = entries a c in
      let z : Entry T = record { slot = slot; item = y } in
      let at = linked_at nodes ends spare free a h c i slot there in
      elim (cases_eq j i) [
        | inl this ↦
            let new : slice_get (set es i z) j ≡ Some z = rw this (slice_get-set_same es i z (slice_get_within es i at.entry at.found)) in
            let same : z ≡ e = let both = sym new ∙ found in cc in
            subst (λ (x : Entry T). slice_get (set nodes slot (Taken (record m { item = y }))) x.slot ≡ Some (Taken (member_of c (set es i z) j x))) same
            (rw this (set_reads ∙ ap (λ (x : Member T). Some (Taken x)) (sym (member_of-set c es i i z z there))))
        | inr other ↦
            kept_reads c j e (sym (slice_get-set_other es i j z other) ∙ found) (λ _ same. other same)
            ∙ ap (λ (x : Member T). Some (Taken x)) (sym (member_of-set c es i j z e there))
      ]

  owned_after : c < length a.chains → (t : ℕ) (n : Member T) → slice_get (set nodes slot (Taken (record m { item = y }))) t ≡ Some (Taken n) →
      IsOnChain (with_entries a c (set (entries a c) i (record { slot = slot; item = y }))) t n.chain
  owned_after in_chains t n now =
      elim (cases_eq t slot) [
        | inl this ↦
            let same = ap (λ (x : Member T). x.chain) (same_member (set nodes slot (Taken (record m { item = y }))) slot _ n set_reads
            (subst (λ (s : ℕ). slice_get (set nodes slot (Taken (record m { item = y }))) s ≡ Some (Taken n)) this now)) in
            rw (← same, this) (on_changed a c slot i _ in_chains (link_at-set (entries a c) i i (record { slot = slot; item = y }) there ∙ there))
        | inr other ↦
            let was = h.owned t n (sym (slice_get-set_other nodes slot t _ other) ∙ now) in
            elim (cases_eq n.chain c) [
              | inl this ↦
                  let index = rw this at was in
                  rw this (on_changed a c t index.index _ in_chains
                  (link_at-set (entries a c) i index.index (record { slot = slot; item = y }) there ∙ index.found))
              | inr apart ↦ on_other a c n.chain t _ apart was
            ]
      ]

  -- the links after a change of the item
  pub Spells-set : (e : Ends) → slice_get ends c ≡ Some e → c < length a.chains →
      Spells (set nodes slot (Taken (record m { item = y }))) ends spare free (with_entries a c (set (entries a c) i (record { slot = slot; item = y })))
  Spells-set e found in_chains =
      let was = h.each c e found in
      let z : Entry T = record { slot = slot; item = y } in
      let chain : SpellsChain (set nodes slot (Taken (record m { item = y }))) c e (set (entries a c) i z) = record {
        first = was.first ∙ sym (link_at-set (entries a c) i 0 z there);
        last = was.last ∙ (sym (link_before-set (entries a c) i (length (entries a c)) z there)
            ∙ ap (λ (n : ℕ). link_before (set (entries a c) i z) n) (sym (length-set (entries a c) i z)));
        len = was.len ∙ sym (length-set (entries a c) i z);
        linked = chain_reads;
      } in
      let whole = assembled nodes ends spare free a h c in_chains (set nodes slot (Taken (record m { item = y }))) e (set (entries a c) i z) spare free
      (length-set nodes slot _) chain
      (λ d j x apart seen. kept_reads d j x seen (λ same _. apart same))
      (owned_after in_chains)
      (SpellsFree-kept nodes _ free_kept spare free h.free_list)
      (let spares = h.free_nodes in omega (arith, count-set is_free nodes slot (Taken m) (Taken (record m { item = y })) read))
      (omega (arith, length-set (entries a c) i z)) in
      let ends_same : set ends c e ≡ ends = ap (set ends c) (sym (get_or_from_slice_get ends c e e found)) ∙ set-get_or ends c e in
      subst (λ (x : List Ends). Spells (set nodes slot (Taken (record m { item = y }))) x spare free (with_entries a c (set (entries a c) i z))) ends_same whole
    where
      free_kept : (t : ℕ) (link : Option ℕ) → slice_get nodes t ≡ Some (Free link) →
          slice_get (set nodes slot (Taken (record m { item = y }))) t ≡ Some (Free link)
      free_kept t link seen =
          let other : t ≢ slot = λ same.
          let clash = sym (subst (λ (s : ℕ). slice_get nodes s ≡ Some (Free link)) same seen) ∙ read in cc in
          slice_get-set_other nodes slot t _ other ∙ seen
