-- A remove, from the links before it to the links after it.
use Rattle.std.proofs.Common.{◌≡◌, ◌≢◌, ℕ, zero, suc, ◌+◌, ◌<◌, ◌≤◌, List, length, set, Option, Some, is_some}
use Rattle.std.proofs.Common.{if◌then◌else◌, slice_get, refl, sym, ◌∙◌, ap}
use Rattle.std.proofs.Common.{subst, inl, inr, arith, length-set, add-one}
use Rattle.std.specs.List.{remove}
use Rattle.std.specs.Option.{option_map}
use Rattle.std.proofs.lemmas.Bool.{cases_lt, cases_eq}
use Rattle.std.proofs.lemmas.List.Edits.{length-remove}
use Rattle.fl_arena.specs.Chains.{Entry, Chains, entries, slot_at, with_entries}
use Rattle.fl_arena.specs.Inside.Links.{is_free, ends_without, link_at, link_before, member_of, relinked, SpellsChain}
use Rattle.fl_arena.specs.Inside.Links.{SpellsFree, IsOnChain, Spells}
use Rattle.fl_arena.specs.Inside.Held.{Held, Free, Taken}
use Rattle.fl_arena.specs.declared.nodes.Member.{Member}
use Rattle.fl_arena.specs.declared.nodes.Ends.{Ends}
use Rattle.fl_arena.proofs.ReadLemmas.{slice_get-set_same, slice_get-set_other, slice_get-remove_below}
use Rattle.fl_arena.proofs.ReadLemmas.{slice_get-remove_above}
use Rattle.fl_arena.proofs.PlaceLemmas.{linked_at, same_place}
use Rattle.fl_arena.proofs.AssembleLemmas.{assembled, on_changed, on_other}
use Rattle.fl_arena.proofs.LinkLemmas.{at_link-same, length-relinked, free_in_relinked, taken_in_relinked}
use Rattle.fl_arena.proofs.RelinkLemmas.{around, entry_reads, at_other, before_other, elsewhere_reads, owned_before}
use Rattle.fl_arena.proofs.CountLemmas.{count-set, count-relinked}
use Rattle.fl_arena.proofs.FreeLemmas.{SpellsFree-kept}
use Rattle.fl_arena.proofs.InsertLemmas.{some_link, no_link}

module _ {T : Type 0} where
  link_at-remove_below : (es : List (Entry T)) (i j : ℕ) → j < i → link_at (remove es i) j ≡ link_at es j
  link_at-remove_below es i j h = ap (option_map (λ (e : Entry T). e.slot)) (slice_get-remove_below es i j h)

  pub link_at-remove_above : (es : List (Entry T)) (i j : ℕ) → i ≤ j → link_at (remove es i) j ≡ link_at es (suc j)
  link_at-remove_above es i j h = ap (option_map (λ (e : Entry T). e.slot)) (slice_get-remove_above es i j h)

  link_before-remove_below : (es : List (Entry T)) (i j : ℕ) → j ≤ i → link_before (remove es i) j ≡ link_before es j
  link_before-remove_below es i zero h = refl
  link_before-remove_below es i (suc j) h = link_at-remove_below es i j (omega arith)

  link_before-remove_above : (es : List (Entry T)) (i j : ℕ) → i < j → link_before (remove es i) j ≡ link_before es (suc j)
  link_before-remove_above es i zero h = absurd (omega arith)
  link_before-remove_above es i (suc j) h = link_at-remove_above es i j (omega arith)

  -- the first slot after a remove
  first_without : (es : List (Entry T)) (i : ℕ) (first : Option ℕ) → i < length es → first ≡ link_at es 0 →
      (if is_some (link_before es i) then first else link_at es (suc i)) ≡ link_at (remove es i) 0
  first_without es zero first le h = sym (link_at-remove_above es 0 0 (omega arith))
  first_without es (suc i) first le h = rw ((some_link es i (omega arith)).1) (h ∙ sym (link_at-remove_below es (suc i) 0 (omega arith)))

  -- the last slot after a remove
  last_without : (es : List (Entry T)) (i : ℕ) (last : Option ℕ) → i < length es → last ≡ link_before es (length es) →
      (if is_some (link_at es (suc i)) then last else link_before es i) ≡ link_before (remove es i) (length (remove es i))
  last_without es i last le h = by_length (length (remove es i)) (length-remove es i le)
    where
      by_length : (n : ℕ) → n + 1 ≡ length es → (if is_some (link_at es (suc i)) then last else link_before es i) ≡ link_before (remove es i) n
      by_length n long =
          elim (cases_lt (suc i) (length es)) [
            | inl inner ↦
                let suc_n : length es ≡ suc n = omega arith in
                rw ((some_link es (suc i) inner).1) (h ∙ (rw suc_n (sym (link_before-remove_above es i n (omega arith)))))
            | inr at_end ↦
                let here : i ≡ n = omega arith in
                rw (no_link es (suc i) at_end) (rw (← here) (sym (link_before-remove_below es i i (omega arith))))
          ]

  -- the nodes after a remove
  abbrev pub nodes_without : List (Held T) → Chains T → ℕ → ℕ → ℕ → Option ℕ → List (Held T)
  nodes_without nodes a c i slot spare = around nodes (entries a c) i (suc i) (link_before (entries a c) i) (link_at (entries a c) (suc i)) slot (Free spare)

module _ {T : Type 0} (nodes : List (Held T)) (ends : List Ends) (spare : Option ℕ) (free : ℕ) (a : Chains T) (h : Spells nodes ends spare free a)
    (c i slot : ℕ) (there : slot_at a c i ≡ Some slot) where
  apart_from : (d j : ℕ) (e : Entry T) → slice_get (entries a d) j ≡ Some e → ((d ≡ c) → (j ≡ i) → ⊥) → e.slot ≢ slot
  apart_from d j e found other same =
      let both = same_place nodes ends spare free a h d c slot j i (ap (option_map (λ (x : Entry T). x.slot)) found ∙ ap Some same) there in
      other both.0 both.1

  -- an entry of the chain before the one that is removed
  below_reads : (j : ℕ) (e : Entry T) → j < i → slice_get (entries a c) j ≡ Some e →
      slice_get (nodes_without nodes a c i slot spare) e.slot ≡ Some (Taken (member_of c (remove (entries a c) i) j e))
  below_reads j e below found =
      let es = entries a c in
      let at_j : slot_at a c j ≡ Some e.slot = ap (option_map (λ (x : Entry T). x.slot)) found in
      entry_reads nodes ends spare free a h c i (suc i) (link_before es i) (link_at es (suc i)) slot (Free spare) c j e (link_before (remove es i) j)
      (link_at (remove es i) (suc j)) found
      (apart_from c j e found (λ _ same. omega arith))
      (at_other nodes ends spare free a h c i (suc i) (link_before es i) (link_at es (suc i)) slot (Free spare) c j e.slot (link_before es i) (link_before es j)
      at_j (λ _ same. omega arith)
      ∙ sym (link_before-remove_below es i j (omega arith)))
      (elim (cases_eq i (suc j)) [
        | inl last ↦ at_link-same (link_before es i) e.slot (link_at es (suc i)) (link_at es (suc j)) (rw last at_j)
            ∙ sym (rw (← last) (link_at-remove_above es i i (omega arith)))
        | inr earlier ↦ before_other nodes ends spare free a h c i (suc i) (link_before es i) (link_at es (suc i)) slot (Free spare) c j e.slot
            (link_at es (suc i)) (link_at es (suc j)) at_j (λ _ same. earlier same)
            ∙ sym (link_at-remove_below es i (suc j) (omega arith))
      ])

  -- an entry of the chain after it, which stood at j + 1 and stands at j
  above_reads : (j : ℕ) (e : Entry T) → i ≤ j → slice_get (entries a c) (suc j) ≡ Some e →
      slice_get (nodes_without nodes a c i slot spare) e.slot ≡ Some (Taken (member_of c (remove (entries a c) i) j e))
  above_reads j e above found =
      let es = entries a c in
      let at_j : slot_at a c (suc j) ≡ Some e.slot = ap (option_map (λ (x : Entry T). x.slot)) found in
      entry_reads nodes ends spare free a h c i (suc i) (link_before es i) (link_at es (suc i)) slot (Free spare) c (suc j) e (link_before (remove es i) j)
      (link_at (remove es i) (suc j)) found
      (apart_from c (suc j) e found (λ _ same. omega arith))
      (elim (cases_eq i j) [
        | inl first ↦ at_link-same (link_at es (suc i)) e.slot (link_before es i) (link_at es j) (rw first at_j)
            ∙ sym (rw (← first) (link_before-remove_below es i i (omega arith)))
        | inr later ↦ at_other nodes ends spare free a h c i (suc i) (link_before es i) (link_at es (suc i)) slot (Free spare) c (suc j) e.slot
            (link_before es i) (link_at es j) at_j (λ _ same. later (omega arith))
            ∙ sym (link_before-remove_above es i j (omega arith))
      ])
      (before_other nodes ends spare free a h c i (suc i) (link_before es i) (link_at es (suc i)) slot (Free spare) c (suc j) e.slot (link_at es (suc i))
      (link_at es (suc (suc j))) at_j (λ _ same. omega arith)
      ∙ sym (link_at-remove_above es i (suc j) (omega arith)))

  -- each entry that is left is linked as its new index says
  left_reads : (j : ℕ) (e : Entry T) → slice_get (remove (entries a c) i) j ≡ Some e →
      slice_get (nodes_without nodes a c i slot spare) e.slot ≡ Some (Taken (member_of c (remove (entries a c) i) j e))
  left_reads j e found =
      elim (cases_lt j i) [
        | inl below ↦ below_reads j e below (sym (slice_get-remove_below (entries a c) i j below) ∙ found)
        | inr above ↦ above_reads j e above (sym (slice_get-remove_above (entries a c) i j above) ∙ found)
      ]

  -- every other chain is linked as before
  other_reads : (d j : ℕ) (e : Entry T) → d ≢ c → slice_get (entries a d) j ≡ Some e →
      slice_get (nodes_without nodes a c i slot spare) e.slot ≡ Some (Taken (member_of d (entries a d) j e))
  other_reads d j e apart found =
      elsewhere_reads nodes ends spare free a h c i (suc i) (link_before (entries a c) i) (link_at (entries a c) (suc i)) slot (Free spare) d j e apart found
      (apart_from d j e found (λ same _. apart same))

  freed_reads : slot < length nodes → slice_get (nodes_without nodes a c i slot spare) slot ≡ Some (Free spare)
  freed_reads in_nodes =
      slice_get-set_same _ slot (Free spare) (omega (
        arith,
        length-relinked nodes (link_before (entries a c) i) (link_at (entries a c) (suc i))
            (link_before (entries a c) i) (link_at (entries a c) (suc i)),
      ))

  -- each taken node is on its chain
  owned_after : slot < length nodes → c < length a.chains → (t : ℕ) (m : Member T) → slice_get (nodes_without nodes a c i slot spare) t ≡ Some (Taken m) →
      IsOnChain (with_entries a c (remove (entries a c) i)) t m.chain
  owned_after in_nodes in_chains t m read =
      elim (cases_eq t slot) [
        | inl freed ↦
            let clash = sym (freed_reads in_nodes) ∙ subst (λ (s : ℕ). slice_get (nodes_without nodes a c i slot spare) s ≡ Some (Taken m)) freed read in cc
        | inr old ↦
            let was = owned_before nodes ends spare free a h c i (suc i) (link_before (entries a c) i) (link_at (entries a c) (suc i)) slot (Free spare) t m old
            read in
            elim (cases_eq m.chain c) [
              | inl this ↦ rw this (shifted old (rw this at was))
              | inr other ↦ on_other a c m.chain t (remove (entries a c) i) other was
            ]
      ]
    where
      later : (k : ℕ) → i < k → link_at (entries a c) k ≡ Some t → IsOnChain (with_entries a c (remove (entries a c) i)) t c
      later zero above found = absurd (omega arith)
      later (suc k) above found = on_changed a c t k (remove (entries a c) i) in_chains (link_at-remove_above (entries a c) i k (omega arith) ∙ found)

      shifted : t ≢ slot → IsOnChain a t c → IsOnChain (with_entries a c (remove (entries a c) i)) t c
      shifted old p =
          elim (cases_lt p.index i) [
            | inl below ↦ on_changed a c t p.index (remove (entries a c) i) in_chains (link_at-remove_below (entries a c) i p.index below ∙ p.found)
            | inr above ↦ elim (cases_eq p.index i) [
              | inl here ↦
                  let same : Some t ≡ Some slot = sym p.found ∙ subst (λ (k : ℕ). slot_at a c k ≡ Some slot) (sym here) there in
                  absurd (old cc)
              | inr off ↦ later p.index (omega arith) p.found
            ]
          ]

  -- the links after a remove
  pub Spells-remove : (e : Ends) → slice_get ends c ≡ Some e → slot < length nodes → c < length a.chains → i < length (entries a c) →
      Spells (nodes_without nodes a c i slot spare) (set ends c (ends_without e (link_before (entries a c) i) (link_at (entries a c) (suc i)))) (Some slot)
      (free + 1) (with_entries a c (remove (entries a c) i))
  Spells-remove e found in_nodes in_chains within =
      let was = h.each c e found in
      let before = link_before (entries a c) i in
      let after = link_at (entries a c) (suc i) in
      let fewer = length-remove (entries a c) i within in
      let list : SpellsFree (nodes_without nodes a c i slot spare) spare free =
      SpellsFree-kept nodes (nodes_without nodes a c i slot spare) free_kept spare free h.free_list in
      let chain : SpellsChain (nodes_without nodes a c i slot spare) c (ends_without e before after) (remove (entries a c) i) = record {
        first = first_without (entries a c) i e.first within was.first;
        last = last_without (entries a c) i e.last within was.last;
        len = let long = was.len in omega arith;
        linked = left_reads;
      } in
      assembled nodes ends spare free a h c in_chains (nodes_without nodes a c i slot spare) (ends_without e before after) (remove (entries a c) i) (Some slot)
      (free + 1)
      (length-set _ slot _ ∙ length-relinked nodes before after before after)
      chain other_reads (owned_after in_nodes in_chains)
      (rw add-one (slot, spare, refl, freed_reads in_nodes, list))
      (let spares = h.free_nodes in let at = linked_at nodes ends spare free a h c i slot there in
      omega (
        arith,
        count-set is_free (relinked nodes before after before after) slot _ (Free spare)
            (taken_in_relinked nodes before after before after slot _ at.linked),
        count-relinked nodes before after before after,
      ))
      (omega arith)
    where
      free_kept : (t : ℕ) (link : Option ℕ) → slice_get nodes t ≡ Some (Free link) → slice_get (nodes_without nodes a c i slot spare) t ≡ Some (Free link)
      free_kept t link read =
          let other : t ≢ slot = λ same.
          let clash = sym (subst (λ (s : ℕ). slice_get nodes s ≡ Some (Free link)) same read) ∙ (linked_at nodes ends spare free a h c i slot there).linked in
          cc in
          slice_get-set_other _ slot t (Free spare) other
          ∙ free_in_relinked nodes (link_before (entries a c) i) (link_at (entries a c) (suc i)) (link_before (entries a c) i) (link_at (entries a c) (suc i)) t
          link read
