-- What a slot holds.
use Rattle.std.specs.Prelude.{ℕ, Option, Some, None}
use Rattle.std.specs.Bool.{⊤}
use Rattle.fl_arena.specs.declared.nodes.Member.{Member}
use Rattle.fl_arena.specs.declared.nodes.Room.{Room}
use Rattle.fl_arena.specs.declared.nodes.Room.TheVariants.{Empty, Filled}

-- the next slot of the free list, or an item on a chain
pub data Held (T : Type 0) : Type 0 where
  Free : Option ℕ → Held T
  Taken : Member T → Held T

module _ {T : Type 0} where
  -- there is an item in the room
  abbrev pub IsFilled : Room T → Type 0
  IsFilled Empty = ⊥
  IsFilled (Filled item) = ⊤

  -- a node on a chain has an item
  abbrev pub IsWhole : Option ℕ → Room T → Type 0
  IsWhole None room = ⊤
  IsWhole (Some c) room = IsFilled room

  -- what a node with these fields holds
  abbrev pub held : Option ℕ → Option ℕ → Option ℕ → Room T → Held T
  held None previous next room = Free next
  held (Some c) previous next Empty = Free next
  held (Some c) previous next (Filled item) =
      Taken (record { chain = c; previous = previous; next = next; item = item })
