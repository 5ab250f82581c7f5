-- A change to one chain, put together from what it does to that chain, to the others and to the free list.
use Rattle.std.proofs.Common.{◌≡◌, ◌≢◌, ℕ, ◌+◌, ◌<◌, List, length, set, count_by, Option, Some, slice_get, sym, ◌∙◌}
use Rattle.std.proofs.Common.{subst, inl, inr, arith, length-set}
use Rattle.std.proofs.lemmas.Bool.{cases_eq}
use Rattle.fl_arena.specs.Chains.{Entry, Chains, entries, with_entries}
use Rattle.fl_arena.specs.Inside.Links.{is_free, link_at, member_of, SpellsChain, SpellsFree, IsOnChain, Spells}
use Rattle.fl_arena.specs.Inside.Held.{Held, Taken}
use Rattle.fl_arena.specs.declared.nodes.Member.{Member}
use Rattle.fl_arena.specs.declared.nodes.Ends.{Ends}
use Rattle.fl_arena.proofs.ReadLemmas.{slice_get-set_same, slice_get-set_other}
use Rattle.fl_arena.proofs.ChainLaws.{entries-with_same, entries-with_other, item_count-with}

module _ {T : Type 0} where
  -- an index of the changed chain
  pub on_changed : (a : Chains T) (c t j : ℕ) (es : List (Entry T)) → c < length a.chains → link_at es j ≡ Some t → IsOnChain (with_entries a c es) t c
  on_changed a c t j es within found =
      record { index = j; found = subst (λ (xs : List (Entry T)). link_at xs j ≡ Some t) (sym (entries-with_same a c es within)) found }

  -- an index of another chain
  pub on_other : (a : Chains T) (c d t : ℕ) (es : List (Entry T)) → d ≢ c → IsOnChain a t d → IsOnChain (with_entries a c es) t d
  on_other a c d t es apart p =
      record { index = p.index; found = subst (λ (xs : List (Entry T)). link_at xs p.index ≡ Some t) (sym (entries-with_other a c d es apart)) p.found }

  pub chain_kept : (old new : List (Held T)) (c : ℕ) (ends : Ends) (es : List (Entry T)) → SpellsChain old c ends es →
      ((j : ℕ) (x : Entry T) → slice_get es j ≡ Some x → slice_get new x.slot ≡ Some (Taken (member_of c es j x))) → SpellsChain new c ends es
  chain_kept old new c ends es h reads = record { first = h.first; last = h.last; len = h.len; linked = reads }

module _ {T : Type 0} (nodes : List (Held T)) (ends : List Ends) (spare : Option ℕ) (free : ℕ) (a : Chains T) (h : Spells nodes ends spare free a) (c : ℕ)
    (within : c < length a.chains) (now : List (Held T)) (end : Ends) (es : List (Entry T)) (link : Option ℕ) (left : ℕ) where
  pub assembled : length now ≡ length nodes → SpellsChain now c end es →
      ((d j : ℕ) (x : Entry T) → d ≢ c → slice_get (entries a d) j ≡ Some x → slice_get now x.slot ≡ Some (Taken (member_of d (entries a d) j x))) →
      ((t : ℕ) (m : Member T) → slice_get now t ≡ Some (Taken m) → IsOnChain (with_entries a c es) t m.chain) → SpellsFree now link left →
      count_by is_free now ≡ left → length es + left ≡ length (entries a c) + free → Spells now (set ends c end) link left (with_entries a c es)
  assembled same chain others owned list spares count = record {
    slots = h.slots ∙ sym same;
    chains = length-set a.chains c es ∙ (h.chains ∙ sym (length-set ends c end));
    each = each_chain;
    owned = owned;
    free_list = list;
    free_nodes = spares;
    count = let counted = item_count-with a c es within in let before = h.count in omega arith;
    few_nodes = let few = h.few_nodes in omega arith;
    few_chains = let few = h.few_chains in omega (arith, length-set ends c end);
  }
    where
      each_chain : (d : ℕ) (e : Ends) → slice_get (set ends c end) d ≡ Some e → SpellsChain now d e (entries (with_entries a c es) d)
      each_chain d e found =
          elim (cases_eq d c) [
            | inl this ↦
                let there : slice_get (set ends c end) d ≡ Some end = rw this (slice_get-set_same ends c end (omega (arith, h.chains))) in
                let same : end ≡ e = let both = sym there ∙ found in cc in
                rw this (subst (λ (xs : List (Entry T)). SpellsChain now c e xs) (sym (entries-with_same a c es within))
                (subst (λ (x : Ends). SpellsChain now c x es) same chain))
            | inr other ↦
                let was = h.each d e (sym (slice_get-set_other ends c d end other) ∙ found) in
                subst (λ (xs : List (Entry T)). SpellsChain now d e xs) (sym (entries-with_other a c d es other))
                (chain_kept nodes now d e (entries a d) was (λ j x. others d j x other))
          ]
