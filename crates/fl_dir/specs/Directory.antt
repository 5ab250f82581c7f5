-- Names and nodes of one directory, whose folders are empty (Linux `fuse.h`: lookup counts and node numbers;
-- POSIX.1-2017 `open`).
use Rattle.std.specs.Prelude.{ℕ, ◌-◌, ◌^◌, Bool, true, false, ◌&&◌, ◌||◌, ◌==◌, nat_le, bit_and, bit_or, Option, Some}
use Rattle.std.specs.Prelude.{None, option_map, List, [], ◌∷◌, if◌then◌else◌}
use Rattle.std.specs.List.{list_any, find}
use Rattle.std.specs.Ordering.{nat_cmp}
use Rattle.std.specs.Str.{bytes_eq}
use Rattle.std.specs.FinMap.{FinMap, empty, get, contains_key, len, entries}
use Rattle.fl_dir.specs.declared.node.Node.{Node}
use Rattle.fl_order.specs.declared.told.Attr.{Attr}

-- nodes and open files by their numbers, the numbers that come next, and how many of each there may be
pub record Listing : Type 0 where
  pub nodes : FinMap nat_cmp Node
  pub files : FinMap nat_cmp ℕ
  pub next_node : ℕ
  pub next_fh : ℕ
  pub most_nodes : ℕ
  pub most_files : ℕ

-- an empty directory for so many nodes and open files: node 1 is its root, and has no entry
abbrev pub opening_listing : ℕ → ℕ → Listing
opening_listing nodes files =
    record { nodes = empty; files = empty; next_node = 2; next_fh = 1; most_nodes = nodes; most_files = files }

-- the root is always there
abbrev pub is_known : Listing → ℕ → Bool
is_known d number = (number == 1) || contains_key d.nodes number

-- the node is linked, under this name
abbrev pub is_named : Node → List ℕ → Bool
is_named node name = node.linked && bytes_eq node.name name

-- the node that is linked under the name, with its number
abbrev pub linked : Listing → List ℕ → Option (ℕ × Node)
linked d name = find (λ e. is_named e.1 name) (entries d.nodes)

-- no file can have the name: it is empty, `.`, `..`, or has a `/` in it
abbrev pub is_reserved : List ℕ → Bool
is_reserved name =
    bytes_eq name [] || bytes_eq name (46 ∷ []) || bytes_eq name (46 ∷ 46 ∷ []) || list_any (λ byte. byte == 47) name

-- as many nodes live beside the root as there may be, or all node numbers are given
abbrev pub nodes_full : Listing → Bool
nodes_full d = nat_le d.most_nodes (len d.nodes) || (d.next_node == 2 ^ 64 - 1)

-- the node is a folder: of the bits of the file type (octal 170000) its mode has those of one (octal 40000)
abbrev pub is_folder : Node → Bool
is_folder node = bit_and node.mode 61440 == 16384

-- a node that may be there is a folder
abbrev pub is_folder_or_none : Option Node → Bool
is_folder_or_none None = false
is_folder_or_none (Some node) = is_folder node

-- the node of this number is a folder; the root isn't one of these
abbrev pub is_folder_at : Listing → ℕ → Bool
is_folder_at d number = is_folder_or_none (get d.nodes number)

-- a regular file (octal 100000) with the permission bits (octal 777) of a mode, as a CREATE makes it
abbrev pub file_mode : ℕ → ℕ
file_mode mode = bit_or 32768 (bit_and mode 511)

-- a regular file with the permissions of a mode and its bits for S_ISUID, S_ISGID and S_ISVTX (octal 7777)
abbrev pub mknod_mode : ℕ → ℕ
mknod_mode mode = bit_or 32768 (bit_and mode 4095)

-- a folder with the same bits of a mode
abbrev pub folder_mode : ℕ → ℕ
folder_mode mode = bit_or 16384 (bit_and mode 4095)

-- a mode asks for a regular file: its type is that (octal 100000), or none
abbrev pub is_regular : ℕ → Bool
is_regular mode = (bit_and mode 61440 == 32768) || (bit_and mode 61440 == 0)

-- a node that is made with this mode, by the user and group that ask
abbrev pub made_node : ℕ → ℕ → ℕ → List ℕ → Node
made_node uid gid mode name =
    record { lookups = 1; name = name; linked = true; mode = mode; uid = uid; gid = gid }

-- how many links a node has that is linked: a file has its name, and a folder itself, too
abbrev pub links : Node → ℕ
links node = if is_folder node then 2 else 1

-- the attributes of a file or a folder
abbrev pub attributes : ℕ → Node → Attr
attributes number node = record {
  node = number;
  mode = node.mode;
  nlink = if node.linked then links node else 0;
  uid = node.uid;
  gid = node.gid;
}

-- the root's attributes: a directory (octal 40000) that all may read and search and its owner may change (octal 755)
abbrev pub root_attributes : Attr
root_attributes = record { node = 1; mode = 16877; nlink = 2; uid = 0; gid = 0 }

-- the attributes of the root, or of a node that is known
abbrev pub attributes_at : Listing → ℕ → Option Attr
attributes_at d number =
    if number == 1 then Some root_attributes else option_map (attributes number) (get d.nodes number)
