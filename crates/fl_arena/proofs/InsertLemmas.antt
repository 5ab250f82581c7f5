-- An insert, from the links before it to the links after it.
use Rattle.std.proofs.Common.{◌≡◌, ◌≢◌, ℕ, zero, suc, ◌<◌, ◌≤◌, List, [], ◌∷◌, length, set, Option, Some, None, is_some}
use Rattle.std.proofs.Common.{if◌then◌else◌, slice_get, refl, sym}
use Rattle.std.proofs.Common.{◌∙◌, ap, subst, inl, inr, arith, length-set, ◌-◌}
use Rattle.std.proofs.Math.Numerals.{sub-one}
use Rattle.std.specs.List.{insert}
use Rattle.std.specs.Option.{option_map}
use Rattle.std.proofs.lemmas.Bool.{cases_lt, cases_eq, cases_order}
use Rattle.std.proofs.lemmas.List.Edits.{length-insert}
use Rattle.std.proofs.lemmas.Option.{slice_get_within, slice_get_past}
use Rattle.fl_arena.specs.Chains.{Entry, Chains, entries, slot_at, with_entries}
use Rattle.fl_arena.specs.Inside.Links.{is_free, ends_with, link_at, link_before, member_of, relinked, SpellsChain}
use Rattle.fl_arena.specs.Inside.Links.{SpellsFree, IsOnChain, Spells}
use Rattle.fl_arena.specs.Inside.Held.{Held, Free, Taken}
use Rattle.fl_arena.specs.declared.nodes.Member.{Member}
use Rattle.fl_arena.specs.declared.nodes.Ends.{Ends}
use Rattle.fl_arena.proofs.ReadLemmas.{slice_get-set_same, slice_get-set_other, slice_get-insert_below}
use Rattle.fl_arena.proofs.ReadLemmas.{slice_get-insert_at, slice_get-insert_above}
use Rattle.fl_arena.proofs.PlaceLemmas.{linked_at, same_member}
use Rattle.fl_arena.proofs.AssembleLemmas.{assembled, on_changed, on_other}
use Rattle.fl_arena.proofs.LinkLemmas.{at_link-same, length-relinked, free_in_relinked}
use Rattle.fl_arena.proofs.RelinkLemmas.{around, entry_reads, at_other, before_other, elsewhere_reads, owned_before}
use Rattle.fl_arena.proofs.CountLemmas.{count-set, count-relinked}
use Rattle.fl_arena.proofs.FreeLemmas.{SpellsFree-rest}

module _ {T : Type 0} where
  pub link_at-insert_below : (es : List (Entry T)) (i j : ℕ) (y : Entry T) → j < i → i ≤ length es → link_at (insert es i y) j ≡ link_at es j
  link_at-insert_below es i j y h le = ap (option_map (λ (e : Entry T). e.slot)) (slice_get-insert_below es i j y h le)

  pub link_at-insert_at : (es : List (Entry T)) (i : ℕ) (y : Entry T) → i ≤ length es → link_at (insert es i y) i ≡ Some y.slot
  link_at-insert_at es i y le = ap (option_map (λ (e : Entry T). e.slot)) (slice_get-insert_at es i y le)

  pub link_at-insert_above : (es : List (Entry T)) (i j : ℕ) (y : Entry T) → i ≤ j → i ≤ length es → link_at (insert es i y) (suc j) ≡ link_at es j
  link_at-insert_above es i j y h le = ap (option_map (λ (e : Entry T). e.slot)) (slice_get-insert_above es i j y h le)

  pub link_before-insert_below : (es : List (Entry T)) (i j : ℕ) (y : Entry T) → j ≤ i → i ≤ length es → link_before (insert es i y) j ≡ link_before es j
  link_before-insert_below es i zero y h le = refl
  link_before-insert_below es i (suc j) y h le = link_at-insert_below es i j y (omega arith) le

  pub link_before-insert_above : (es : List (Entry T)) (i j : ℕ) (y : Entry T) → i < j → i ≤ length es → link_before (insert es i y) (suc j) ≡ link_before es j
  link_before-insert_above es i zero y h le = absurd (omega arith)
  link_before-insert_above es i (suc j) y h le = link_at-insert_above es i j y (omega arith) le

module _ {T : Type 0} where
  pub some_link : (es : List (Entry T)) (i : ℕ) → i < length es → (t : ℕ) × (link_at es i ≡ Some t)
  some_link [] i h = absurd (omega arith)
  some_link (e ∷ es) zero h = (e.slot, refl)
  some_link (e ∷ es) (suc i) h = some_link es i (omega arith)

  pub no_link : (es : List (Entry T)) (i : ℕ) → length es ≤ i → link_at es i ≡ None
  no_link es i h = ap (option_map (λ (e : Entry T). e.slot)) (slice_get_past es i h)

  -- the first slot after an insert
  first_after : (es : List (Entry T)) (i : ℕ) (y : Entry T) (first : Option ℕ) → i ≤ length es → first ≡ link_at es 0 →
      (if is_some (link_before es i) then first else Some y.slot) ≡ link_at (insert es i y) 0
  first_after es zero y first le h = refl
  first_after es (suc i) y first le h = rw ((some_link es i (omega arith)).1) (h ∙ sym (link_at-insert_below es (suc i) 0 y (omega arith) le))

  -- the last slot after an insert
  last_after : (es : List (Entry T)) (i : ℕ) (y : Entry T) (last : Option ℕ) → i ≤ length es → last ≡ link_before es (length es) →
      (if is_some (link_at es i) then last else Some y.slot) ≡ link_before (insert es i y) (length (insert es i y))
  last_after es i y last le h =
      let long : length (insert es i y) ≡ suc (length es) = omega (arith, length-insert es i y le) in
      rw long (elim (cases_lt i (length es)) [
        | inl inner ↦ rw ((some_link es i inner).1) (h ∙ sym (kept (length es) inner))
        | inr at_end ↦
            let here : i ≡ length es = omega arith in
            rw (no_link es i at_end) (sym (rw (← here) (link_at-insert_at es i y le)))
      ])
    where
      kept : (n : ℕ) → i < n → link_at (insert es i y) n ≡ link_before es n
      kept zero h = absurd (omega arith)
      kept (suc n) h = link_at-insert_above es i n y (omega arith) le

  -- the entry that is inserted, and what its node has
  abbrev pub entry_in : ℕ → T → Entry T
  entry_in slot y = record { slot = slot; item = y }

  abbrev pub node_in : ℕ → List (Entry T) → ℕ → T → Held T
  node_in c es i y = Taken (record { chain = c; previous = link_before es i; next = link_at es i; item = y })

  -- the nodes after an insert
  abbrev pub nodes_after : List (Held T) → Chains T → ℕ → ℕ → ℕ → T → List (Held T)
  nodes_after nodes a c i slot y = around nodes (entries a c) i i (Some slot) (Some slot) slot (node_in c (entries a c) i y)

module _ {T : Type 0} (nodes : List (Held T)) (ends : List Ends) (spare : Option ℕ) (free : ℕ) (a : Chains T) (h : Spells nodes ends spare free a)
    (c i slot : ℕ) (y : T) (within : i ≤ length (entries a c)) (unused : (d j : ℕ) → slot_at a d j ≡ Some slot → ⊥) (in_nodes : slot < length nodes) where
  -- an entry of the chain before the new one
  below_reads : (j : ℕ) (e : Entry T) → j < i → slice_get (entries a c) j ≡ Some e →
      slice_get (nodes_after nodes a c i slot y) e.slot ≡ Some (Taken (member_of c (insert (entries a c) i (entry_in slot y)) j e))
  below_reads j e below found =
      let es = entries a c in
      let z = entry_in slot y in
      let there : slot_at a c j ≡ Some e.slot = ap (option_map (λ (x : Entry T). x.slot)) found in
      entry_reads nodes ends spare free a h c i i (Some slot) (Some slot) slot (node_in c es i y) c j e (link_before (insert es i z) j)
      (link_at (insert es i z) (suc j)) found
      (λ same. unused c j (there ∙ ap Some same))
      (at_other nodes ends spare free a h c i i (Some slot) (Some slot) slot (node_in c es i y) c j e.slot (Some slot) (link_before es j) there
      (λ _ same. omega arith)
      ∙ sym (link_before-insert_below es i j z (omega arith) within))
      (elim (cases_eq i (suc j)) [
        | inl last ↦ at_link-same (link_before es i) e.slot (Some slot) (link_at es (suc j)) (rw last there)
            ∙ sym (rw (← last) (link_at-insert_at es i z within))
        | inr earlier ↦ before_other nodes ends spare free a h c i i (Some slot) (Some slot) slot (node_in c es i y) c j e.slot (Some slot) (link_at es (suc j))
            there (λ _ same. earlier same)
            ∙ sym (link_at-insert_below es i (suc j) z (omega arith) within)
      ])

  -- an entry of the chain after it, which stood at j and stands at j + 1
  above_reads : (j : ℕ) (e : Entry T) → i ≤ j → slice_get (entries a c) j ≡ Some e →
      slice_get (nodes_after nodes a c i slot y) e.slot ≡ Some (Taken (member_of c (insert (entries a c) i (entry_in slot y)) (suc j) e))
  above_reads j e above found =
      let es = entries a c in
      let z = entry_in slot y in
      let there : slot_at a c j ≡ Some e.slot = ap (option_map (λ (x : Entry T). x.slot)) found in
      entry_reads nodes ends spare free a h c i i (Some slot) (Some slot) slot (node_in c es i y) c j e (link_at (insert es i z) j)
      (link_at (insert es i z) (suc (suc j))) found
      (λ same. unused c j (there ∙ ap Some same))
      (elim (cases_eq i j) [
        | inl first ↦ at_link-same (link_at es i) e.slot (Some slot) (link_before es j) (rw first there)
            ∙ sym (rw (← first) (link_at-insert_at es i z within))
        | inr later ↦ at_other nodes ends spare free a h c i i (Some slot) (Some slot) slot (node_in c es i y) c j e.slot (Some slot) (link_before es j) there
            (λ _ same. later same)
            ∙ sym (link_before-insert_above es i j z (omega arith) within)
      ])
      (before_other nodes ends spare free a h c i i (Some slot) (Some slot) slot (node_in c es i y) c j e.slot (Some slot) (link_at es (suc j)) there
      (λ _ same. omega arith)
      ∙ sym (link_at-insert_above es i (suc j) z (omega arith) within))

  -- the new entry
  new_reads : slice_get (nodes_after nodes a c i slot y) slot ≡ Some (Taken (member_of c (insert (entries a c) i (entry_in slot y)) i (entry_in slot y)))
  new_reads =
      let es = entries a c in
      let z = entry_in slot y in
      slice_get-set_same (relinked nodes (link_before es i) (link_at es i) (Some slot) (Some slot)) slot (node_in c es i y)
      (omega (arith, length-relinked nodes (link_before es i) (link_at es i) (Some slot) (Some slot)))
      ∙ (ap (λ (l : Option ℕ). Some (Taken (record { chain = c; previous = l; next = link_at es i; item = y })))
      (sym (link_before-insert_below es i i z (omega arith) within))
      ∙ ap (λ (l : Option ℕ). Some (Taken (record { chain = c; previous = link_before (insert es i z) i; next = l; item = y })))
      (sym (link_at-insert_above es i i z (omega arith) within)))

  -- each entry of the chain is linked as its new index says
  inserted_reads : (j : ℕ) (e : Entry T) → slice_get (insert (entries a c) i (entry_in slot y)) j ≡ Some e →
      slice_get (nodes_after nodes a c i slot y) e.slot ≡ Some (Taken (member_of c (insert (entries a c) i (entry_in slot y)) j e))
  inserted_reads j e found =
      elim (cases_order j i) [
        | inl at ↦
            let there : slice_get (insert (entries a c) i (entry_in slot y)) j ≡ Some (entry_in slot y) =
            rw at (slice_get-insert_at (entries a c) i (entry_in slot y) within) in
            let same : entry_in slot y ≡ e = let both = sym there ∙ found in cc in
            subst (λ (x : Entry T). slice_get (nodes_after nodes a c i slot y) x.slot
            ≡ Some (Taken (member_of c (insert (entries a c) i (entry_in slot y)) j x))) same (rw at new_reads)
        | inr off ↦ elim off [
          | inl below ↦ below_reads j e below (sym (slice_get-insert_below (entries a c) i j (entry_in slot y) below within) ∙ found)
          | inr above ↦ above_case j e above found
        ]
      ]
    where
      above_case : (j : ℕ) (e : Entry T) → i < j → slice_get (insert (entries a c) i (entry_in slot y)) j ≡ Some e →
          slice_get (nodes_after nodes a c i slot y) e.slot ≡ Some (Taken (member_of c (insert (entries a c) i (entry_in slot y)) j e))
      above_case zero e above found = absurd (omega arith)
      above_case (suc j) e above found =
          above_reads j e (omega arith) (sym (slice_get-insert_above (entries a c) i j (entry_in slot y) (omega arith) within) ∙ found)

  -- every other chain is linked as before
  other_reads : (d j : ℕ) (e : Entry T) → d ≢ c → slice_get (entries a d) j ≡ Some e →
      slice_get (nodes_after nodes a c i slot y) e.slot ≡ Some (Taken (member_of d (entries a d) j e))
  other_reads d j e apart found =
      elsewhere_reads nodes ends spare free a h c i i (Some slot) (Some slot) slot (node_in c (entries a c) i y) d j e apart found
      (λ same. unused d j (ap (option_map (λ (x : Entry T). x.slot)) found ∙ ap Some same))

  -- each taken node is on its chain
  owned_after : c < length a.chains → (t : ℕ) (m : Member T) → slice_get (nodes_after nodes a c i slot y) t ≡ Some (Taken m) →
      IsOnChain (with_entries a c (insert (entries a c) i (entry_in slot y))) t m.chain
  owned_after in_chains t m read =
      elim (cases_eq t slot) [
        | inl new ↦
            let same = ap (λ (x : Member T). x.chain) (same_member (nodes_after nodes a c i slot y) slot _ m new_reads
            (subst (λ (s : ℕ). slice_get (nodes_after nodes a c i slot y) s ≡ Some (Taken m)) new read)) in
            rw (← same, new) (on_changed a c slot i (insert (entries a c) i (entry_in slot y)) in_chains
            (link_at-insert_at (entries a c) i (entry_in slot y) within))
        | inr old ↦
            let was = owned_before nodes ends spare free a h c i i (Some slot) (Some slot) slot (node_in c (entries a c) i y) t m old read in
            elim (cases_eq m.chain c) [
              | inl this ↦ rw this (shifted (rw this at was))
              | inr other ↦ on_other a c m.chain t (insert (entries a c) i (entry_in slot y)) other was
            ]
      ]
    where
      shifted : IsOnChain a t c → IsOnChain (with_entries a c (insert (entries a c) i (entry_in slot y))) t c
      shifted p =
          elim (cases_lt p.index i) [
            | inl below ↦ on_changed a c t p.index (insert (entries a c) i (entry_in slot y)) in_chains
                (link_at-insert_below (entries a c) i p.index (entry_in slot y) below within ∙ p.found)
            | inr above ↦ on_changed a c t (suc p.index) (insert (entries a c) i (entry_in slot y)) in_chains
                (link_at-insert_above (entries a c) i p.index (entry_in slot y) above within ∙ p.found)
          ]

  -- the chain is linked with the new entry in it
  chain_after : (e : Ends) → slice_get ends c ≡ Some e →
      SpellsChain (nodes_after nodes a c i slot y) c (ends_with e (link_before (entries a c) i) (link_at (entries a c) i) slot)
      (insert (entries a c) i (entry_in slot y))
  chain_after e found =
      let was = h.each c e found in
      record {
        first = first_after (entries a c) i (entry_in slot y) e.first within was.first;
        last = last_after (entries a c) i (entry_in slot y) e.last within was.last;
        len = let long = was.len in omega (arith, length-insert (entries a c) i (entry_in slot y) within);
        linked = inserted_reads;
      }

module _ {T : Type 0} where
  -- a free slot is on no chain
  pub unused_slot : (nodes : List (Held T)) (ends : List Ends) (spare : Option ℕ) (free : ℕ) (a : Chains T) → Spells nodes ends spare free a →
      (slot : ℕ) (next : Option ℕ) → slice_get nodes slot ≡ Some (Free next) → (d j : ℕ) → slot_at a d j ≡ Some slot → ⊥
  unused_slot nodes ends spare free a h slot next read d j there =
      let clash = sym read ∙ (linked_at nodes ends spare free a h d j slot there).linked in cc

  -- the links after an insert in the first slot of the free list
  pub Spells-insert : (nodes : List (Held T)) (ends : List Ends) (free : ℕ) (a : Chains T) (c i slot : ℕ) (y : T) (next : Option ℕ) (e : Ends) →
      Spells nodes ends (Some slot) free a → c < length a.chains → i ≤ length (entries a c) → slice_get nodes slot ≡ Some (Free next) →
      slice_get ends c ≡ Some e →
      Spells (nodes_after nodes a c i slot y) (set ends c (ends_with e (link_before (entries a c) i) (link_at (entries a c) i) slot)) next (free - 1)
      (with_entries a c (insert (entries a c) i (entry_in slot y)))
  Spells-insert nodes ends free a c i slot y next e h in_chains within read found =
      let unused = unused_slot nodes ends (Some slot) free a h slot next read in
      let in_nodes = slice_get_within nodes slot (Free next) read in
      let rest = rest_of free h.free_list in
      let list = SpellsFree-rest nodes (nodes_after nodes a c i slot y) slot next (free - 1) read rest.1 (λ t link other was. slice_get-set_other _ slot t _
      other ∙ free_in_relinked nodes (link_before (entries a c) i) (link_at (entries a c) i) (Some slot) (Some slot) t link was) in
      assembled nodes ends (Some slot) free a h c in_chains (nodes_after nodes a c i slot y) _ (insert (entries a c) i (entry_in slot y)) next (free - 1)
      (length-set _ slot _ ∙ length-relinked nodes (link_before (entries a c) i) (link_at (entries a c) i) (Some slot) (Some slot))
      (chain_after nodes ends (Some slot) free a h c i slot y within unused in_nodes e found)
      (other_reads nodes ends (Some slot) free a h c i slot y within unused in_nodes)
      (owned_after nodes ends (Some slot) free a h c i slot y within unused in_nodes in_chains)
      list
      (let some = rest.0 in let before = h.free_nodes in
      omega (
        arith,
        count-set is_free (relinked nodes (link_before (entries a c) i) (link_at (entries a c) i) (Some slot) (Some slot)) slot (Free next)
            (node_in c (entries a c) i y)
            (free_in_relinked nodes (link_before (entries a c) i) (link_at (entries a c) i) (Some slot) (Some slot) slot next read),
        count-relinked nodes (link_before (entries a c) i) (link_at (entries a c) i) (Some slot) (Some slot),
      ))
      (let some = rest.0 in omega (arith, length-insert (entries a c) i (entry_in slot y) within))
    where
      rest_of : (n : ℕ) → SpellsFree nodes (Some slot) n → (0 < n) × SpellsFree nodes next (n - 1)
      rest_of zero p = cc
      rest_of (suc n) p =
          let slots : p.0 ≡ slot = let same = p.2 in cc in
          let nexts : p.1 ≡ next = let same = sym (rw slots at p.3) ∙ read in cc in
          (omega arith, rw sub-one (subst (λ (l : Option ℕ). SpellsFree nodes l n) nexts p.4))
