-- What the entries read once the links round a place of a chain lead elsewhere.
use Rattle.std.proofs.Common.{◌≡◌, ◌≢◌, ℕ, zero, suc, List, set, Option, Some, slice_get, refl, sym, ◌∙◌, ap, subst}
use Rattle.std.proofs.Common.{inl, inr, arith}
use Rattle.std.specs.Option.{option_map}
use Rattle.std.proofs.lemmas.Option.{slice_get_within, slice_get_cases}
use Rattle.fl_arena.specs.Chains.{Entry, Chains, entries, slot_at}
use Rattle.fl_arena.specs.Inside.Links.{at_link, link_at, link_before, member_of, relinked, IsOnChain, Spells}
use Rattle.fl_arena.specs.Inside.Held.{Held, Free, Taken}
use Rattle.fl_arena.specs.declared.nodes.Member.{Member}
use Rattle.fl_arena.specs.declared.nodes.Ends.{Ends}
use Rattle.fl_arena.proofs.ReadLemmas.{slice_get-set_other}
use Rattle.fl_arena.proofs.PlaceLemmas.{linked_at, same_place, same_member}
use Rattle.fl_arena.proofs.LinkLemmas.{at_link-other, length-relinked, taken_in_relinked, free_in_relinked}

module _ {T : Type 0} where
  -- the nodes once the slot before `i` leads to `next`, and the slot at `k` back to `previous`, and a
  -- slot has a node of its own
  abbrev pub around : List (Held T) → List (Entry T) → ℕ → ℕ → Option ℕ → Option ℕ → ℕ → Held T → List (Held T)
  around nodes es i k previous next slot node =
      set (relinked nodes (link_before es i) (link_at es k) previous next) slot node

module _ {T : Type 0} (nodes : List (Held T)) (ends : List Ends) (spare : Option ℕ) (free : ℕ) (a : Chains T) (h : Spells nodes ends spare free a) (c i k : ℕ)
    (previous next : Option ℕ) (slot : ℕ) (node : Held T) where
  -- an entry elsewhere than in the slot itself
  pub entry_reads : (d j : ℕ) (e : Entry T) (p n : Option ℕ) → slice_get (entries a d) j ≡ Some e → e.slot ≢ slot →
      at_link (link_at (entries a c) k) e.slot previous (link_before (entries a d) j) ≡ p →
      at_link (link_before (entries a c) i) e.slot next (link_at (entries a d) (suc j)) ≡ n →
      slice_get (around nodes (entries a c) i k previous next slot node) e.slot ≡ Some (Taken (record { chain = d; previous = p; next = n; item = e.item }))
  entry_reads d j e p n found other back on =
      let there : slot_at a d j ≡ Some e.slot = ap (option_map (λ (x : Entry T). x.slot)) found in
      let at = linked_at nodes ends spare free a h d j e.slot there in
      let same : at.entry ≡ e = let both = sym at.found ∙ found in cc in
      let read : slice_get nodes e.slot ≡ Some (Taken (member_of d (entries a d) j e)) =
      subst (λ (x : Entry T). slice_get nodes e.slot ≡ Some (Taken (member_of d (entries a d) j x))) same at.linked in
      slice_get-set_other (relinked nodes (link_before (entries a c) i) (link_at (entries a c) k) previous next) slot e.slot node other
      ∙ (taken_in_relinked nodes (link_before (entries a c) i) (link_at (entries a c) k) previous next e.slot (member_of d (entries a d) j e) read
      ∙ (ap (λ (l : Option ℕ). Some (Taken (record {
        chain = d;
        previous = l;
        next = at_link (link_before (entries a c) i) e.slot next
            (link_at (entries a d) (suc j));
        item = e.item;
      }))) back
      ∙ ap (λ (l : Option ℕ). Some (Taken (record { chain = d; previous = p; next = l; item = e.item }))) on))

  -- the link to the slot at `k` names no other place
  pub at_other : (d j t : ℕ) (x y : Option ℕ) → slot_at a d j ≡ Some t → ((c ≡ d) → (k ≡ j) → ⊥) → at_link (link_at (entries a c) k) t x y ≡ y
  at_other d j t x y there apart =
      at_link-other (link_at (entries a c) k) t x y (λ same.
      let both = same_place nodes ends spare free a h c d t k j same there in
      apart both.0 both.1)

  -- nor does the link to the slot before `i`
  pub before_other : (d j t : ℕ) (x y : Option ℕ) → slot_at a d j ≡ Some t → ((c ≡ d) → (i ≡ suc j) → ⊥) → at_link (link_before (entries a c) i) t x y ≡ y
  before_other d j t x y there apart = before_is i refl
    where
      before_is : (m : ℕ) → m ≡ i → at_link (link_before (entries a c) m) t x y ≡ y
      before_is zero e = refl
      before_is (suc m) e =
          at_link-other (link_at (entries a c) m) t x y (λ same.
          let both = same_place nodes ends spare free a h c d t m j same there in
          apart both.0 (sym e ∙ ap suc both.1))

  -- a chain that the place isn't on reads as before
  pub elsewhere_reads : (d j : ℕ) (e : Entry T) → d ≢ c → slice_get (entries a d) j ≡ Some e → e.slot ≢ slot →
      slice_get (around nodes (entries a c) i k previous next slot node) e.slot ≡ Some (Taken (member_of d (entries a d) j e))
  elsewhere_reads d j e apart found other =
      let there : slot_at a d j ≡ Some e.slot = ap (option_map (λ (x : Entry T). x.slot)) found in
      entry_reads d j e (link_before (entries a d) j) (link_at (entries a d) (suc j)) found other
      (at_other d j e.slot previous (link_before (entries a d) j) there (λ same _. apart (sym same)))
      (before_other d j e.slot next (link_at (entries a d) (suc j)) there (λ same _. apart (sym same)))

  -- a taken node elsewhere than in the slot itself was on its chain before
  pub owned_before : (t : ℕ) (m : Member T) → t ≢ slot → slice_get (around nodes (entries a c) i k previous next slot node) t ≡ Some (Taken m) →
      IsOnChain a t m.chain
  owned_before t m other read =
      let now = sym (slice_get-set_other (relinked nodes (link_before (entries a c) i) (link_at (entries a c) k) previous next) slot t node other) ∙ read in
      elim (slice_get_cases nodes t).1 [
        | inl found ↦ by_node found.0 found.2 now
        | inr past ↦
            let within = slice_get_within (relinked nodes (link_before (entries a c) i) (link_at (entries a c) k) previous next) t (Taken m) now in
            absurd (omega (arith, past.0, length-relinked nodes (link_before (entries a c) i) (link_at (entries a c) k) previous next))
      ]
    where
      by_node : (x : Held T) → slice_get nodes t ≡ Some x →
          slice_get (relinked nodes (link_before (entries a c) i) (link_at (entries a c) k) previous next) t ≡ Some (Taken m) → IsOnChain a t m.chain
      by_node (Free link) was now =
          let still = free_in_relinked nodes (link_before (entries a c) i) (link_at (entries a c) k) previous next t link was in
          let clash = sym still ∙ now in cc
      by_node (Taken n) was now =
          let still = taken_in_relinked nodes (link_before (entries a c) i) (link_at (entries a c) k) previous next t n was in
          let same = ap (λ (x : Member T). x.chain)
          (same_member (relinked nodes (link_before (entries a c) i) (link_at (entries a c) k) previous next) t _ m still now) in
          subst (λ (d : ℕ). IsOnChain a t d) same (h.owned t n was)
