-- What contracts see of an arena: the items of each chain, each with the slot that it stands in.
use Rattle.std.specs.Prelude.{◌≡◌, ◌≢◌, ℕ, ◌+◌, ◌-◌, ◌<◌, ◌==◌, Bool, not, List, [], map, length, sum_by, count_by}
use Rattle.std.specs.Prelude.{Option, Some, slice_get, slice_index_or, slice_set}
use Rattle.std.specs.List.{list_any, range_with_len}
use Rattle.std.specs.Option.{option_map}

-- an item and the slot that it stands in
pub record Entry (T : Type 0) : Type 0 where
  pub slot : ℕ
  pub item : T

-- the entries of each chain, in order, and how many slots there are
pub record Chains (T : Type 0) : Type 0 where
  pub chains : List (List (Entry T))
  pub slots : ℕ

module _ {T : Type 0} where
  -- the entries of a chain, in order
  abbrev pub entries : Chains T → ℕ → List (Entry T)
  entries a c = slice_index_or a.chains c []

  -- the items of a chain, in order
  abbrev pub items : Chains T → ℕ → List T
  items a c = map (λ e. e.item) (entries a c)

  -- the slot of the item at an index of a chain, if there is one
  abbrev pub slot_at : Chains T → ℕ → ℕ → Option ℕ
  slot_at a c i = option_map (λ e. e.slot) (slice_get (entries a c) i)

  -- the slot is on no chain
  abbrev pub IsFree : Chains T → ℕ → Type 0
  IsFree a slot = (c i : ℕ) → slot_at a c i ≢ Some slot

  -- how many items there are over all chains
  abbrev pub item_count : Chains T → ℕ
  item_count a = sum_by length a.chains

  -- the same chains, but for one that now has these entries
  abbrev pub with_entries : Chains T → ℕ → List (Entry T) → Chains T
  with_entries a c es = record a { chains = slice_set a.chains c es }

  -- how many slots are left
  abbrev pub free_count : Chains T → ℕ
  free_count a = a.slots - item_count a

  -- there are as many chains and as many slots
  pub record HasSizeOf (old new : Chains T) : Type 0 where
    pub chains : length new.chains ≡ length old.chains
    pub slots : new.slots ≡ old.slots

  -- the slot is on a chain
  abbrev pub is_linked : Chains T → ℕ → Bool
  is_linked a slot = list_any (λ es. list_any (λ e. e.slot == slot) es) a.chains

  -- how many slots are on no chain
  abbrev pub unlinked_count : Chains T → ℕ
  unlinked_count a = count_by (λ slot. not (is_linked a slot)) (range_with_len 0 a.slots)

  -- no slot is linked twice: each item stands in a slot of the arena, in which no other item of any chain stands, and
  -- the slots on no chain are all the others
  pub record IsLinked (a : Chains T) : Type 0 where
    pub in_range : (c i slot : ℕ) → slot_at a c i ≡ Some slot → slot < a.slots
    pub once : (c i d j slot : ℕ) → slot_at a c i ≡ Some slot → slot_at a d j ≡ Some slot → (c ≡ d) × (i ≡ j)
    pub others : item_count a + unlinked_count a ≡ a.slots
