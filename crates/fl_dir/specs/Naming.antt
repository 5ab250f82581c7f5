-- Names by the numbers of nodes.
use Rattle.std.specs.Prelude.{ℕ, Bool, false, ◌&&◌, nat_le, Option, Some, None, option_map, List}
use Rattle.std.specs.List.{filter}
use Rattle.std.specs.FinMap.{get, entries}
use Rattle.fl_dir.specs.declared.node.Node.{Node}
use Rattle.fl_dir.specs.Directory.{Listing}

-- the name under which a node was made; none for the root, and for a number that no node has
abbrev pub name_at : Listing → ℕ → Option (List ℕ)
name_at d number = option_map (λ (node : Node). node.name) (get d.nodes number)

-- a node that may be there is linked
abbrev pub is_linked : Option Node → Bool
is_linked None = false
is_linked (Some node) = node.linked

-- the node of this number has its name; not so for the root, and for a number that no node has
abbrev pub is_linked_at : Listing → ℕ → Bool
is_linked_at d number = is_linked (get d.nodes number)

-- the linked nodes whose numbers are at least this one, each with its number, in the order of numbers
abbrev pub linked_from : Listing → ℕ → List (ℕ × Node)
linked_from d from = filter (λ e. nat_le from e.0 && e.1.linked) (entries d.nodes)
