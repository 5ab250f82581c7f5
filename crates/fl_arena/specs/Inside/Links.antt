-- How the links inside the slots spell the chains and the free list.
use Rattle.std.specs.Prelude.{◌≡◌, ℕ, zero, suc, ◌+◌, ◌-◌, ◌≤◌, ◌<◌, ◌==◌, Bool, true, false, List, [], ◌∷◌, map}
use Rattle.std.specs.Prelude.{length, count_by, Option, Some, None, is_some, slice_get, MatchOption, if◌then◌else◌}
use Rattle.std.specs.Bool.{⊤}
use Rattle.std.specs.Option.{option_map}
use Rattle.fl_arena.specs.Chains.{Entry, Chains, entries, slot_at, item_count}
use Rattle.fl_arena.specs.Inside.Held.{Held, Free, Taken}
use Rattle.fl_arena.specs.declared.nodes.Member.{Member}
use Rattle.fl_arena.specs.declared.nodes.Ends.{Ends}

-- the list with a function applied at an index
abbrev pub alter : {A : Type 0} → (A → A) → List A → ℕ → List A
alter f [] i = []
alter f (x ∷ xs) zero = f x ∷ xs
alter f (x ∷ xs) (suc i) = x ∷ alter f xs i

-- the first of these if the link names the slot, and else the second
abbrev pub at_link : {A : Type 0} → Option ℕ → ℕ → A → A → A
at_link None slot x y = y
at_link (Some named) slot x y = if named == slot then x else y

-- the list with a function applied at the slot that the link names, if it names one
abbrev pub alter_link : {A : Type 0} → (A → A) → List A → Option ℕ → List A
alter_link f xs None = xs
alter_link f xs (Some slot) = alter f xs slot

-- the ends of a chain with one more entry in the slot, between these links
abbrev pub ends_with : Ends → Option ℕ → Option ℕ → ℕ → Ends
ends_with ends before after slot = record {
  first = if is_some before then ends.first else Some slot;
  last = if is_some after then ends.last else Some slot;
  len = ends.len + 1;
}

-- the ends of a chain with one entry fewer, which stood between these links
abbrev pub ends_without : Ends → Option ℕ → Option ℕ → Ends
ends_without ends before after = record {
  first = if is_some before then ends.first else after;
  last = if is_some after then ends.last else before;
  len = ends.len - 1;
}

module _ {T : Type 0} where
  -- the slot at an index of these entries, if there is one
  abbrev pub link_at : List (Entry T) → ℕ → Option ℕ
  link_at es i = option_map (λ e. e.slot) (slice_get es i)

  -- the slot before an index of these entries, if there is one
  abbrev pub link_before : List (Entry T) → ℕ → Option ℕ
  link_before es zero = None
  link_before es (suc i) = link_at es i

  -- what the node of an entry has, at this index of a chain
  abbrev pub member_of : ℕ → List (Entry T) → ℕ → Entry T → Member T
  member_of c es i e = record { chain = c; previous = link_before es i; next = link_at es (suc i); item = e.item }

  -- the node with another link to the one before
  abbrev pub with_previous : Option ℕ → Held T → Held T
  with_previous link (Free next) = Free next
  with_previous link (Taken m) = Taken (record m { previous = link })

  -- the node with another link to the next
  abbrev pub with_next : Option ℕ → Held T → Held T
  with_next link (Free next) = Free next
  with_next link (Taken m) = Taken (record m { next = link })

  -- the node on another chain, with other links
  abbrev pub with_links : ℕ → Option ℕ → Option ℕ → Held T → Held T
  with_links c previous next (Free link) = Free link
  with_links c previous next (Taken m) = Taken (record m { chain = c; previous = previous; next = next })

  -- the item of a node that has one
  abbrev pub item_in : Held T → Option T
  item_in (Free next) = None
  item_in (Taken m) = Some m.item

  -- the chain of the item of a node that has one
  abbrev pub chain_in : Held T → Option ℕ
  chain_in (Free next) = None
  chain_in (Taken m) = Some m.chain

  -- the node with another item, if it has one
  abbrev pub held_with : Held T → T → Held T
  held_with (Free next) item = Free next
  held_with (Taken m) item = Taken (record m { item = item })

  -- the slot holds an item
  abbrev pub IsTaken : List (Held T) → ℕ → Type 0
  IsTaken nodes slot = (m : Member T) × (slice_get nodes slot ≡ Some (Taken m))

  -- the slot holds an item between these links
  pub record HasLinks (nodes : List (Held T)) (slot : ℕ) (previous next : Option ℕ) : Type 0 where
    pub chain : ℕ
    pub item : T
    pub read : slice_get nodes slot
        ≡ Some (Taken (record { chain = chain; previous = previous; next = next; item = item }))

  -- the slot holds this item
  pub record HasItem (nodes : List (Held T)) (slot : ℕ) (item : T) : Type 0 where
    pub chain : ℕ
    pub previous : Option ℕ
    pub next : Option ℕ
    pub read : slice_get nodes slot
        ≡ Some (Taken (record { chain = chain; previous = previous; next = next; item = item }))

  -- the slot holds none
  abbrev pub IsSpare : List (Held T) → ℕ → Type 0
  IsSpare nodes slot = (next : Option ℕ) × (slice_get nodes slot ≡ Some (Free next))

  -- the link, if it names a slot, names one of these
  abbrev pub IsWithin : List (Held T) → Option ℕ → Type 0
  IsWithin nodes link = MatchOption link ⊤ (λ slot. slot < length nodes)

  -- the nodes once the node before a place leads to `next`, and the node after it back to `previous`
  abbrev pub relinked : List (Held T) → Option ℕ → Option ℕ → Option ℕ → Option ℕ → List (Held T)
  relinked nodes before after previous next =
      alter_link (with_previous previous) (alter_link (with_next next) nodes before) after

  -- the ends and the nodes spell these entries of a chain
  pub record SpellsChain (nodes : List (Held T)) (c : ℕ) (ends : Ends) (es : List (Entry T)) : Type 0 where
    pub first : ends.first ≡ link_at es 0
    pub last : ends.last ≡ link_before es (length es)
    pub len : ends.len ≡ length es
    pub linked : (i : ℕ) (e : Entry T) → slice_get es i ≡ Some e → slice_get nodes e.slot
        ≡ Some (Taken (member_of c es i e))

  -- the node holds no item
  abbrev pub is_free : Held T → Bool
  is_free (Free next) = true
  is_free (Taken m) = false

  -- from this link on, so many free nodes each name the next, and the last names none
  abbrev pub SpellsFree : List (Held T) → Option ℕ → ℕ → Type 0
  SpellsFree nodes link zero = link ≡ None
  SpellsFree nodes link (suc count) =
      (slot : ℕ) × (next : Option ℕ) × (link ≡ Some slot) × (slice_get nodes slot ≡ Some (Free next))
      × SpellsFree nodes next count

  -- the node is at an index of the chain that it names
  pub record IsOnChain (a : Chains T) (slot c : ℕ) : Type 0 where
    pub index : ℕ
    pub found : slot_at a c index ≡ Some slot

  -- the links spell these chains and a free list of the other slots
  pub record Spells (nodes : List (Held T)) (ends : List Ends) (spare : Option ℕ) (free : ℕ) (a : Chains T) : Type
      0 where
    pub slots : a.slots ≡ length nodes
    pub chains : length a.chains ≡ length ends
    pub each : (c : ℕ) (e : Ends) → slice_get ends c ≡ Some e → SpellsChain nodes c e (entries a c)
    pub owned : (slot : ℕ) (m : Member T) → slice_get nodes slot ≡ Some (Taken m) → IsOnChain a slot m.chain
    pub free_list : SpellsFree nodes spare free
    pub free_nodes : count_by is_free nodes ≡ free
    pub count : item_count a + free ≡ length nodes
    pub few_nodes : length nodes ≤ 65536
    pub few_chains : length ends ≤ 65536

  -- nodes that are all free, so many, in one free list from this link on
  pub record AreFree (nodes : List (Held T)) (link : Option ℕ) (count : ℕ) : Type 0 where
    pub len : length nodes ≡ count
    pub free_list : SpellsFree nodes link count
    pub counted : count_by is_free nodes ≡ count
    pub untaken : (slot : ℕ) (m : Member T) → slice_get nodes slot ≡ Some (Taken m) → ⊥

  -- the entries that so many nodes spell, from this link on
  unfoldable pub walk : List (Held T) → Option ℕ → ℕ → List (Entry T)
  walk nodes link zero = []
  walk nodes None (suc n) = []
  walk nodes (Some slot) (suc n) = elim (slice_get nodes slot) [
    | None ↦ []
    | Some node ↦ elim node [ Free next ↦ [] | Taken m ↦ record { slot = slot; item = m.item } ∷ walk nodes m.next n ]
  ]

  -- the chains that the ends and the nodes spell
  unfoldable pub spelled : List (Held T) → List Ends → Chains T
  spelled nodes ends = record { chains = map (λ e. walk nodes e.first e.len) ends; slots = length nodes }
