-- What the links spell is what a walk along them finds.
use Rattle.std.proofs.Common.{◌≡◌, ℕ, zero, suc, ◌+◌, ◌<◌, List, [], ◌∷◌, map, length, drop, Option, Some, None}
use Rattle.std.proofs.Common.{slice_get, refl, sym, ◌∙◌, ap, inl, inr, arith}
use Rattle.std.specs.Option.{option_map}
use Rattle.std.proofs.lemmas.Bool.{cases_lt}
use Rattle.std.proofs.lemmas.List.{drop_all}
use Rattle.std.proofs.lemmas.Option.{slice_get-get_or, slice_get_past, slice_get-map}
use Rattle.fl_arena.specs.Chains.{Entry, Chains, entries}
use Rattle.fl_arena.specs.Inside.Links.{link_at, SpellsChain, Spells, walk, spelled}
use Rattle.fl_arena.specs.Inside.Held.{Held, Taken}
use Rattle.fl_arena.specs.declared.nodes.Member.{Member}
use Rattle.fl_arena.specs.declared.nodes.Ends.{Ends}
use Rattle.fl_arena.proofs.ReadLemmas.{same_from_slice_get}

module _ {T : Type 0} where
  walk-taken : (nodes : List (Held T)) (slot n : ℕ) (m : Member T) → slice_get nodes slot ≡ Some (Taken m) →
      walk nodes (Some slot) (suc n) ≡ record { slot = slot; item = m.item } ∷ walk nodes m.next n
  unfolding walk
  walk-taken nodes slot n m h = rw (h, walk)

  some_entry : (es : List (Entry T)) (k : ℕ) → k < length es → (x : Entry T) × (slice_get es k ≡ Some x) × (drop k es ≡ x ∷ drop (suc k) es)
  some_entry [] k h = absurd (omega arith)
  some_entry (x ∷ es) zero h = (x, refl, refl)
  some_entry (x ∷ es) (suc k) h = some_entry es k (omega arith)

  walk-from : (nodes : List (Held T)) (c : ℕ) (ends : Ends) (es : List (Entry T)) → SpellsChain nodes c ends es → (n k : ℕ) → k + n ≡ length es →
      walk nodes (link_at es k) n ≡ drop k es
  unfolding walk
  walk-from nodes c ends es h zero k e = sym (drop_all k es (omega arith))
  walk-from nodes c ends es h (suc n) k e =
      let first : ends.len ≡ ends.len = refl in
      let some = some_entry es k (omega arith) in
      let link : link_at es k ≡ Some some.0.slot = ap (option_map (λ (x : Entry T). x.slot)) some.1 in
      rw link (walk-taken nodes some.0.slot n _ (h.linked k some.0 some.1)
      ∙ (ap (λ es. some.0 ∷ es) (walk-from nodes c ends es h n (suc k) (omega arith)) ∙ sym some.2))

  pub walk-spelled : (nodes : List (Held T)) (c : ℕ) (ends : Ends) (es : List (Entry T)) → SpellsChain nodes c ends es → walk nodes ends.first ends.len ≡ es
  walk-spelled nodes c ends es h = rw (h.first, h.len) (walk-from nodes c ends es h (length es) 0 (omega arith))

  pub same_chains : (a b : Chains T) → a.chains ≡ b.chains → a.slots ≡ b.slots → a ≡ b
  same_chains a b p q =
      let first : a ≡ record { chains = b.chains; slots = a.slots } = ap (λ (cs : List (List (Entry T))). record { chains = cs; slots = a.slots }) p in
      first ∙ ap (λ (n : ℕ). record { chains = b.chains; slots = n }) q

  spelled_at : (nodes : List (Held T)) (ends : List Ends) (spare : Option ℕ) (free : ℕ) (a : Chains T) → Spells nodes ends spare free a → (c : ℕ) →
      slice_get (map (λ (e : Ends). walk nodes e.first e.len) ends) c ≡ slice_get a.chains c
  spelled_at nodes ends spare free a h c = elim (cases_lt c (length ends)) [
    | inl within ↦
        let found = slice_get-get_or ends c (record { first = None; last = None; len = 0 }) within in
        slice_get-map (λ (e : Ends). walk nodes e.first e.len) ends c
        ∙ (ap (option_map (λ (e : Ends). walk nodes e.first e.len)) found
        ∙ (ap Some (walk-spelled nodes c _ (entries a c) (h.each c _ found))
        ∙ sym (slice_get-get_or a.chains c [] (omega (arith, h.chains)))))
    | inr past ↦
        slice_get-map (λ (e : Ends). walk nodes e.first e.len) ends c
        ∙ (ap (option_map (λ (e : Ends). walk nodes e.first e.len)) (slice_get_past ends c past)
        ∙ sym (slice_get_past a.chains c (omega (arith, h.chains))))
  ]

  -- the chains that are spelled are these
  pub spelled_is : (nodes : List (Held T)) (ends : List Ends) (spare : Option ℕ) (free : ℕ) (a : Chains T) → Spells nodes ends spare free a →
      spelled nodes ends ≡ a
  unfolding spelled
  spelled_is nodes ends spare free a h =
      same_chains (spelled nodes ends) a (same_from_slice_get _ a.chains (spelled_at nodes ends spare free a h)) (sym h.slots)
