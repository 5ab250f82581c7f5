-- Where a cursor stands.
use Rattle.std.specs.Prelude.{◌≡◌, ℕ, Bool, length, Option, Some, None, is_some, slice_get, slice_set, unwrap_or}
use Rattle.std.specs.Prelude.{insert, remove, ◌<◌, MatchOption, if◌then◌else◌}
use Rattle.std.specs.Bool.{⊤}
use Rattle.std.specs.Fn.{Shared, AnyResult}
use denote.Ref.{Bor}
use Rattle.fl_arena.specs.Chains.{Entry, Chains, entries, items, slot_at, IsFree, with_entries}
use Rattle.fl_arena.specs.declared.cursors.Cursor.{Cursor}

-- each call of a closure at an item answers what the test does
abbrev pub Tests : {F T : Type 0} → Shared F (Bor T × Unit {0}) Bool → (T → Bool) → F → Type 0
Tests {F} {T} g test f = (a : Bor T × Unit {0}) → AnyResult g f a (λ r. r ≡ test a.0.now)

module _ {T : Type 0} where
  -- the cursor at an index of a chain, with the slot of the item there, or with none past the last item
  abbrev pub cursor_at : Chains T → ℕ → ℕ → Cursor
  cursor_at a c i = record { chain = c; index = i; slot = slot_at a c i }

  -- the cursor's slot, if it has one, is at its chain and index
  abbrev pub IsInPlace : Chains T → Cursor → Type 0
  IsInPlace a cursor = MatchOption cursor.slot ⊤ (λ s. slot_at a cursor.chain cursor.index ≡ Some s)

  -- the index that the cursor stands at: if it has no slot, the end of its chain
  abbrev pub index_of : Chains T → Cursor → ℕ
  index_of a cursor = if is_some cursor.slot then cursor.index else length (entries a cursor.chain)

  -- the item that the cursor stands at, if it stands at one
  abbrev pub item_of : Chains T → Cursor → Option T
  item_of a cursor = if is_some cursor.slot then slice_get (items a cursor.chain) cursor.index else None

  -- the same chains, but for the item at the cursor
  abbrev pub with_item : Chains T → Cursor → T → Chains T
  with_item a cursor item =
      with_entries a cursor.chain
      (slice_set (entries a cursor.chain) cursor.index (record { slot = unwrap_or cursor.slot 0; item = item }))

  -- the same chains, but for one without the entry at an index
  abbrev pub without : Chains T → ℕ → ℕ → Chains T
  without a c i = with_entries a c (remove (entries a c) i)

  -- an item was put in a slot that was free, before the old cursor, and the new cursor stands at it
  pub record Inserts (old new : Chains T) (from to : Cursor) (item : T) : Type 0 where
    pub slot : ℕ
    pub in_range : slot < old.slots
    pub was_free : IsFree old slot
    pub chains : new
        ≡ with_entries old from.chain
        (insert (entries old from.chain) (index_of old from) (record { slot = slot; item = item }))
    pub cursor : to ≡ record { chain = from.chain; index = index_of old from; slot = Some slot }

  -- the entry at a cursor was taken off its chain, and put before another cursor, in the slot that it was in
  pub record Shifts (old new : Chains T) (from to : Cursor) : Type 0 where
    pub moved : Entry T
    pub was_there : slice_get (entries old from.chain) from.index ≡ Some moved
    pub chains : new
        ≡ with_entries (without old from.chain from.index) to.chain
        (insert (entries old to.chain) (index_of old to) moved)
