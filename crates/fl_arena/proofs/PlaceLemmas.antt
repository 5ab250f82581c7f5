-- At most one place for each slot.
use Rattle.std.proofs.Common.{◌≡◌, ℕ, zero, suc, ◌<◌, List, [], length, get_or, subst, Option, Some, None, slice_get}
use Rattle.std.proofs.Common.{refl, sym, ◌∙◌, ap, inl, inr, arith}
use Rattle.std.specs.Option.{option_map}
use Rattle.std.proofs.lemmas.Bool.{cases_lt}
use Rattle.std.proofs.lemmas.List.{get_or_past}
use Rattle.std.proofs.lemmas.Option.{none-some, slice_get_within, slice_get-get_or}
use Rattle.fl_arena.specs.Chains.{Entry, Chains, entries, slot_at}
use Rattle.fl_arena.specs.Inside.Links.{link_at, member_of, Spells}
use Rattle.fl_arena.specs.Inside.Held.{Held, Free, Taken}
use Rattle.fl_arena.specs.declared.nodes.Member.{Member}
use Rattle.fl_arena.specs.declared.nodes.Ends.{Ends}
use Rattle.fl_arena.specs.declared.cursors.Place.TheVariants as Place
use Rattle.fl_arena.specs.declared.cursors.Place.TheVariants.{On}

some_inside : {A B : Type 0} (o : Option A) (f : A → B) (y : B) → option_map f o ≡ Some y → (x : A) × (o ≡ Some x) × (f x ≡ y)
some_inside None f y h = absurd (none-some y h)
some_inside (Some x) f y h = (x, refl, cc)

module _ {T : Type 0} where
  -- an entry is at the index, and its node is linked as that index says
  pub record IsLinkedAt (nodes : List (Held T)) (a : Chains T) (c i slot : ℕ) : Type 0 where
    pub entry : Entry T
    pub found : slice_get (entries a c) i ≡ Some entry
    pub slot_is : entry.slot ≡ slot
    pub linked : slice_get nodes slot ≡ Some (Taken (member_of c (entries a c) i entry))

  pub entry_from_slot_at : (a : Chains T) (c i slot : ℕ) → slot_at a c i ≡ Some slot → (e : Entry T) × (slice_get (entries a c) i ≡ Some e) × (e.slot ≡ slot)
  entry_from_slot_at a c i slot h = some_inside (slice_get (entries a c) i) (λ e. e.slot) slot h

  -- an entry is on one of the chains
  pub chain_within : (a : Chains T) (c i : ℕ) (e : Entry T) → slice_get (entries a c) i ≡ Some e → c < length a.chains
  chain_within a c i e h =
      elim (cases_lt c (length a.chains)) [
        | inl in_range ↦ in_range
        | inr past ↦
            let none = get_or_past a.chains c [] past in
            absurd (none-some e (rw none at h))
      ]

  pub linked_at : (nodes : List (Held T)) (ends : List Ends) (spare : Option ℕ) (free : ℕ) (a : Chains T) → Spells nodes ends spare free a → (c i slot : ℕ) →
      slot_at a c i ≡ Some slot → IsLinkedAt nodes a c i slot
  linked_at nodes ends spare free a h c i slot found =
      let e = entry_from_slot_at a c i slot found in
      let within : c < length ends = omega (arith, chain_within a c i e.0 e.1, h.chains) in
      let spells = h.each c _ (slice_get-get_or ends c (record { first = None; last = None; len = 0 }) within) in
      record {
        entry = e.0;
        found = e.1;
        slot_is = e.2;
        linked = subst (λ (s : ℕ). slice_get nodes s ≡ Some (Taken (member_of c (entries a c) i e.0))) e.2 (spells.linked i e.0 e.1);
      }

  -- before an index that is in the list there is an entry, unless it is the first
  pub link_before-suc : (es : List (Entry T)) (i : ℕ) (e : Entry T) → slice_get es (suc i) ≡ Some e → (d : Entry T) × (slice_get es i ≡ Some d)
  link_before-suc es i e h =
      let within = slice_get_within es (suc i) e h in
      (get_or es i e, slice_get-get_or es i e (omega arith))

  pub same_member : (nodes : List (Held T)) (slot : ℕ) (m n : Member T) → slice_get nodes slot ≡ Some (Taken m) → slice_get nodes slot ≡ Some (Taken n) → m ≡ n
  same_member nodes slot m n p q = let same = sym p ∙ q in cc

  pub same_place : (nodes : List (Held T)) (ends : List Ends) (spare : Option ℕ) (free : ℕ) (a : Chains T) → Spells nodes ends spare free a →
      (c d slot i j : ℕ) → slot_at a c i ≡ Some slot → slot_at a d j ≡ Some slot → (c ≡ d) × (i ≡ j)
  same_place nodes ends spare free a h c d slot zero zero p q =
      let x = linked_at nodes ends spare free a h c zero slot p in
      let y = linked_at nodes ends spare free a h d zero slot q in
      let same = same_member nodes slot _ _ x.linked y.linked in
      let chains = ap (λ (m : Member T). m.chain) same in
      let links = ap (λ (m : Member T). m.previous) same in
      (cc, refl)
  same_place nodes ends spare free a h c d slot zero (suc j) p q =
      let x = linked_at nodes ends spare free a h c zero slot p in
      let y = linked_at nodes ends spare free a h d (suc j) slot q in
      let same = same_member nodes slot _ _ x.linked y.linked in
      let chains = ap (λ (m : Member T). m.chain) same in
      let links = ap (λ (m : Member T). m.previous) same in
      let before = link_before-suc (entries a d) j y.entry y.found in
      let there : link_at (entries a d) j ≡ Some before.0.slot = ap (option_map (λ (e : Entry T). e.slot)) before.1 in
      cc
  same_place nodes ends spare free a h c d slot (suc i) zero p q =
      let x = linked_at nodes ends spare free a h c (suc i) slot p in
      let y = linked_at nodes ends spare free a h d zero slot q in
      let same = same_member nodes slot _ _ x.linked y.linked in
      let chains = ap (λ (m : Member T). m.chain) same in
      let links = ap (λ (m : Member T). m.previous) same in
      let before = link_before-suc (entries a c) i x.entry x.found in
      let there : link_at (entries a c) i ≡ Some before.0.slot = ap (option_map (λ (e : Entry T). e.slot)) before.1 in
      cc
  same_place nodes ends spare free a h c d slot (suc i) (suc j) p q =
      let x = linked_at nodes ends spare free a h c (suc i) slot p in
      let y = linked_at nodes ends spare free a h d (suc j) slot q in
      let same = same_member nodes slot _ _ x.linked y.linked in
      let chains = ap (λ (m : Member T). m.chain) same in
      let links = ap (λ (m : Member T). m.previous) same in
      let before = link_before-suc (entries a c) i x.entry x.found in
      let there : link_at (entries a c) i ≡ Some before.0.slot = ap (option_map (λ (e : Entry T). e.slot)) before.1 in
      let earlier = same_place nodes ends spare free a h c d before.0.slot i j there (sym links ∙ there) in
      (earlier.0, ap suc earlier.1)

  -- a free slot is on no chain
  pub place_free : (nodes : List (Held T)) (ends : List Ends) (spare : Option ℕ) (free : ℕ) (a : Chains T) → Spells nodes ends spare free a →
      (slot : ℕ) (next : Option ℕ) → slice_get nodes slot ≡ Some (Free next) → (c i : ℕ) →
      (Place.Free ≡ On c i → slot_at a c i ≡ Some slot) × (slot_at a c i ≡ Some slot → Place.Free ≡ On c i)
  place_free nodes ends spare free a h slot next read c i =
      (λ same. cc, λ there. let clash = sym read ∙ (linked_at nodes ends spare free a h c i slot there).linked in cc)

  -- a slot on a chain is at that place and at no other
  pub place_on : (nodes : List (Held T)) (ends : List Ends) (spare : Option ℕ) (free : ℕ) (a : Chains T) → Spells nodes ends spare free a → (slot d j : ℕ) →
      slot_at a d j ≡ Some slot → (c i : ℕ) → (On d j ≡ On c i → slot_at a c i ≡ Some slot) × (slot_at a c i ≡ Some slot → On d j ≡ On c i)
  place_on nodes ends spare free a h slot d j here c i = (
    λ same.
        let chains : d ≡ c = cc in
        let indexes : j ≡ i = cc in
        rw (← chains, ← indexes) here,
    λ there.
        let both = same_place nodes ends spare free a h d c slot j i here there in
        ap (λ (k : ℕ). On k j) both.0 ∙ ap (λ (k : ℕ). On c k) both.1,
  )
