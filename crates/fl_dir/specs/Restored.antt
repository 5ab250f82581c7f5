-- Which parts of a directory can be told to one that is told so far, and what is there then.
use Rattle.std.specs.Prelude.{ℕ, Bool, not, ◌&&◌, nat_lt, is_some}
use Rattle.std.specs.FinMap.{contains_key, insert, len}
use Rattle.fl_dir.specs.declared.node.Node.{Node}
use Rattle.fl_dir.specs.Directory.{Listing, linked}

-- a number above the root's and below the next one has no node, and there is room for one
abbrev pub has_node_place : Listing → ℕ → Bool
has_node_place d number =
    nat_lt 1 number
    && (nat_lt number d.next_node && (not (contains_key d.nodes number) && nat_lt (len d.nodes) d.most_nodes))

-- an fh above 0 and below the next one isn't open, and there is room for one
abbrev pub has_file_place : Listing → ℕ → Bool
has_file_place d fh =
    nat_lt 0 fh && (nat_lt fh d.next_fh && (not (contains_key d.files fh) && nat_lt (len d.files) d.most_files))

-- there is a place for a node, and its name is free if it has it
abbrev pub fits_node : Listing → ℕ → Node → Bool
fits_node d number node = has_node_place d number && not (node.linked && is_some (linked d node.name))

-- there is a place for an open file, and its node is there
abbrev pub fits_file : Listing → ℕ → ℕ → Bool
fits_file d fh node = has_file_place d fh && contains_key d.nodes node

-- one node more
abbrev pub with_node : Listing → ℕ → Node → Listing
with_node d number node = record d { nodes = insert d.nodes number node }

-- one open file more
abbrev pub with_file : Listing → ℕ → ℕ → Listing
with_file d fh node = record d { files = insert d.files fh node }

-- these numbers come next
abbrev pub with_numbers : Listing → ℕ → ℕ → Listing
with_numbers d node fh = record d { next_node = node; next_fh = fh }
