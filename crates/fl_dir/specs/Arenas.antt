-- What stands in the arenas of a directory.
use Rattle.std.specs.Prelude.{ℕ, List, [], ◌∷◌, ◌++◌, map}
use Rattle.std.specs.Ordering.{nat_cmp}
use Rattle.std.specs.FinMap.{FinMap, entries, from_entries, from_sorted}
use Rattle.fl_arena.specs.Chains.{Entry, Chains}
use Rattle.fl_dir.specs.declared.node.Node.{Node}
use Rattle.fl_dir.specs.declared.nodes.Slot.{Slot}

module _ {X : Type 0} where
  -- the items of all chains, one chain after another
  abbrev pub joined : List (List (Entry (ℕ × X))) → List (ℕ × X)
  joined [] = []
  joined (es ∷ rest) = map (λ e. e.item) es ++ joined rest

  -- the values of all chains, by number
  abbrev pub values_on : Chains (ℕ × X) → FinMap nat_cmp X
  values_on a = from_entries (joined a.chains)

-- the nodes without their counts of open files
abbrev pub bare : FinMap nat_cmp Slot → FinMap nat_cmp Node
bare slots = from_sorted (map (λ e. (e.0, e.1.node)) (entries slots))
