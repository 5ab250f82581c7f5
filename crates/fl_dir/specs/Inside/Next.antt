-- The least number of a linked node, of those from a number on.
use Rattle.std.specs.Prelude.{◌≡◌, ℕ, zero, suc, ◌≤◌, ◌<◌, min, Bool, true, false, ◌||◌, Option, Some, None}
use Rattle.std.specs.Prelude.{MatchOption}
use Rattle.fl_arena.specs.Chains.{Chains}
use Rattle.fl_dir.specs.declared.nodes.Slot.{Slot}
use Rattle.fl_dir.specs.Inside.Spread.{at}

-- the number passes the test, and none before it does, of those from a number on
pub record IsFirst (test : ℕ → Bool) (from number : ℕ) : Type 0 where
  pub least : from ≤ number
  pub passes : test number ≡ true
  pub before : (q : ℕ) → from ≤ q → q < number → test q ≡ false

-- the first number that passes the test, if one does, of those from a number on
abbrev pub IsNext : (ℕ → Bool) → ℕ → Option ℕ → Type 0
IsNext test from found = MatchOption found ((q : ℕ) → from ≤ q → test q ≡ false) (IsFirst test from)

-- a node that may be there is linked
abbrev pub linked_in : Option Slot → Bool
linked_in None = false
linked_in (Some slot) = slot.node.linked

-- the node of this number stands on a chain, and is linked
abbrev pub linked_on : Chains (ℕ × Slot) → ℕ → ℕ → Bool
linked_on a c q = linked_in (at a c q)

-- the node of this number stands on one of the first chains, and is linked
abbrev pub linked_before : Chains (ℕ × Slot) → ℕ → ℕ → Bool
linked_before a zero q = false
linked_before a (suc c) q = linked_before a c q || linked_on a c q

-- the lesser of two numbers, either of which may be missing
abbrev pub lesser : Option ℕ → Option ℕ → Option ℕ
lesser None b = b
lesser (Some a) None = Some a
lesser (Some a) (Some b) = Some (min a b)
