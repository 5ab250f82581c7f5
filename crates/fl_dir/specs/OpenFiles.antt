-- Open files: the numbers (fh) under which nodes are open, and what keeps a node alive (Linux `fuse.h`).
use Rattle.std.specs.Prelude.{ℕ, ◌-◌, ◌^◌, Bool, false, not, ◌||◌, ◌==◌, nat_le, Option, Some, None}
use Rattle.std.specs.List.{list_any}
use Rattle.std.specs.FinMap.{get, len, entries, remove}
use Rattle.fl_dir.specs.declared.node.Node.{Node}
use Rattle.fl_dir.specs.Directory.{Listing}

-- as many files are open as there may be, or all their numbers are given
abbrev pub files_full : Listing → Bool
files_full d = nat_le d.most_files (len d.files) || (d.next_fh == 2 ^ 64 - 1)

-- an fh that may be open is open on this node
abbrev pub is_on : Option ℕ → ℕ → Bool
is_on None node = false
is_on (Some own) node = own == node

-- the fh is open, and on this node
abbrev pub is_open_on : Listing → ℕ → ℕ → Bool
is_open_on d fh node = is_on (get d.files fh) node

-- the directory with this fh closed
abbrev pub without_file : Listing → ℕ → Listing
without_file d fh = record d { files = remove d.files fh }

-- some fh is open on the node
abbrev pub has_open_file : Listing → ℕ → Bool
has_open_file d node = list_any (λ file. file.1 == node) (entries d.files)

-- a node lives while it is linked, has lookups or is open
abbrev pub lives : Listing → ℕ → Node → Bool
lives d number node = node.linked || not (node.lookups == 0) || has_open_file d number
