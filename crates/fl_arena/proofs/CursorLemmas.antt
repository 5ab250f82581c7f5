-- What the node at a cursor has.
use Rattle.std.proofs.Common.{◌≡◌, ℕ, zero, suc, ◌<◌, ◌≤◌, List, [], length, Option, Some, None, slice_get, refl, sym}
use Rattle.std.proofs.Common.{◌∙◌, ap, inl, inr, arith}
use Rattle.std.specs.Option.{option_map}
use Rattle.std.proofs.lemmas.Bool.{cases_lt}
use Rattle.std.proofs.lemmas.List.{get_or_past}
use Rattle.std.proofs.lemmas.List.Sums.{sum_by-set}
use Rattle.std.proofs.lemmas.Option.{slice_get_within, slice_get-map}
use Rattle.fl_arena.specs.Chains.{Entry, Chains, entries, items, slot_at, item_count}
use Rattle.fl_arena.specs.Cursors.{IsInPlace}
use Rattle.fl_arena.specs.Inside.Links.{link_at, link_before, IsTaken, IsWithin, Spells}
use Rattle.fl_arena.specs.declared.cursors.Cursor.{Cursor}
use Rattle.fl_arena.specs.Inside.Held.{Held, Taken}
use Rattle.fl_arena.specs.declared.nodes.Member.{Member}
use Rattle.fl_arena.specs.declared.nodes.Ends.{Ends}
use Rattle.fl_arena.proofs.PlaceLemmas.{linked_at, chain_within, same_member}

module _ {T : Type 0} where
  -- no chain has more items than there are over all
  pub length-entries : (a : Chains T) (c : ℕ) → length (entries a c) ≤ item_count a
  length-entries a c =
      elim (cases_lt c (length a.chains)) [
        | inl within ↦ omega (arith, sum_by-set length a.chains c [] [] within)
        | inr past ↦
            let none : entries a c ≡ [] = get_or_past a.chains c [] past in
            rw none (omega arith)
      ]

  -- the member that the slot at this index of a chain has
  pub record IsAt (nodes : List (Held T)) (a : Chains T) (c i slot : ℕ) (m : Member T) : Type 0 where
    pub in_nodes : slot < length nodes
    pub in_chains : c < length a.chains
    pub in_chain : i < length (entries a c)
    pub small : length (entries a c) ≤ 65536
    pub chain : m.chain ≡ c
    pub previous : m.previous ≡ link_before (entries a c) i
    pub next : m.next ≡ slot_at a c (suc i)
    pub item : slice_get (items a c) i ≡ Some m.item

  pub is_at : (nodes : List (Held T)) (ends : List Ends) (spare : Option ℕ) (free : ℕ) (a : Chains T) → Spells nodes ends spare free a →
      (c i slot : ℕ) (m : Member T) → slot_at a c i ≡ Some slot → slice_get nodes slot ≡ Some (Taken m) → IsAt nodes a c i slot m
  is_at nodes ends spare free a h c i slot m there read =
      let at = linked_at nodes ends spare free a h c i slot there in
      let same = same_member nodes slot _ m at.linked read in
      let count = h.count in
      let few = h.few_nodes in
      record {
        in_nodes = slice_get_within nodes slot (Taken m) read;
        in_chains = chain_within a c i at.entry at.found;
        in_chain = slice_get_within (entries a c) i at.entry at.found;
        small = omega (arith, length-entries a c);
        chain = ap (λ (x : Member T). x.chain) (sym same);
        previous = ap (λ (x : Member T). x.previous) (sym same);
        next = ap (λ (x : Member T). x.next) (sym same);
        item = slice_get-map (λ (e : Entry T). e.item) (entries a c) i
            ∙ (ap (option_map (λ (e : Entry T). e.item)) at.found ∙ ap Some (ap (λ (x : Member T). x.item) same));
      }

  pub is_taken : (nodes : List (Held T)) (ends : List Ends) (spare : Option ℕ) (free : ℕ) (a : Chains T) → Spells nodes ends spare free a → (c i slot : ℕ) →
      slot_at a c i ≡ Some slot → IsTaken nodes slot
  is_taken nodes ends spare free a h c i slot there =
      let at = linked_at nodes ends spare free a h c i slot there in
      (_, at.linked)

  -- a cursor that has a slot is there
  pub slot_there : (a : Chains T) (cursor : Cursor) (slot : ℕ) → cursor.slot ≡ Some slot → IsInPlace a cursor → slot_at a cursor.chain cursor.index ≡ Some slot
  slot_there a cursor slot named h = rw named at h

  pub linked_within : (nodes : List (Held T)) (ends : List Ends) (spare : Option ℕ) (free : ℕ) (a : Chains T) → Spells nodes ends spare free a → (c i : ℕ) →
      IsWithin nodes (link_at (entries a c) i)
  linked_within nodes ends spare free a h c i = by_link (link_at (entries a c) i) refl
    where
      by_link : (link : Option ℕ) → link ≡ link_at (entries a c) i → IsWithin nodes link
      by_link None e = tt
      by_link (Some slot) e = slice_get_within nodes slot _ (linked_at nodes ends spare free a h c i slot (sym e)).linked

  pub before_within : (nodes : List (Held T)) (ends : List Ends) (spare : Option ℕ) (free : ℕ) (a : Chains T) → Spells nodes ends spare free a → (c i : ℕ) →
      IsWithin nodes (link_before (entries a c) i)
  before_within nodes ends spare free a h c zero = tt
  before_within nodes ends spare free a h c (suc i) = linked_within nodes ends spare free a h c i
