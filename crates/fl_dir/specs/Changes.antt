-- What orders with their recorded answers change in the directory. Nothing is tested: an error changes nothing.
use Rattle.std.specs.Prelude.{ℕ, ◌+◌, ◌-◌, false, Option, Some, None, Result, Ok, Err, option_map, List, if◌then◌else◌}
use Rattle.std.specs.Ordering.{nat_cmp}
use Rattle.std.specs.FinMap.{FinMap, get, insert, remove, contains_key}
use Rattle.fl_dir.specs.declared.node.Node.{Node}
use Rattle.fl_dir.specs.Directory.{Listing, file_mode, folder_mode, linked, made_node, mknod_mode}
use Rattle.fl_dir.specs.OpenFiles.{lives, without_file}
use Rattle.fl_order.specs.declared.errno.Errno.{Errno}
use Rattle.fl_order.specs.declared.told.Answer.{Answer}
use Rattle.fl_order.specs.declared.told.Answer.TheVariants.{Entry, Open, Made}
use Rattle.fl_order.specs.declared.told.Attr.{Attr}

-- the nodes with this one at a number
abbrev pub set_at : FinMap nat_cmp Node → ℕ → Option Node → FinMap nat_cmp Node
set_at nodes number None = nodes
set_at nodes number (Some node) = insert nodes number node

-- the nodes with a change of the one at a number, if there is one
abbrev pub changed_at : FinMap nat_cmp Node → ℕ → (Node → Node) → FinMap nat_cmp Node
changed_at nodes number change = set_at nodes number (option_map change (get nodes number))

-- a node that was looked up once more
abbrev pub counted_up : Node → Node
counted_up node = record node { lookups = node.lookups + 1 }

-- a node of which so many lookups were forgotten: none is left if there were no more
abbrev pub counted_down : ℕ → Node → Node
counted_down n node = record node { lookups = node.lookups - n }

-- a node that is linked no more
abbrev pub without_link : Node → Node
without_link node = record node { linked = false }

-- without this node, if nothing keeps it alive
abbrev pub swept_node : Listing → ℕ → Option Node → Listing
swept_node d number None = d
swept_node d number (Some node) = if lives d number node then d else record d { nodes = remove d.nodes number }

-- without the node of this number, if nothing keeps it alive
abbrev pub swept : ℕ → Listing → Listing
swept number d = swept_node d number (get d.nodes number)

-- the directory after a LOOKUP, by its recorded answer
abbrev pub after_lookup : Listing → Result Answer Errno → Listing
after_lookup d (Ok (Entry attr)) = record d { nodes = changed_at d.nodes attr.node counted_up }
after_lookup d other = d

-- the node of an answer, looked up once more, or new
abbrev pub looked_up : Option Node → Node → Node
looked_up None made = made
looked_up (Some node) made = counted_up node

-- the directory after a CREATE that made or opened this node under this fh
abbrev pub after_made : Listing → Node → Attr → ℕ → Listing
after_made d made attr fh = record d {
  nodes = insert d.nodes attr.node (looked_up (get d.nodes attr.node) made);
  files = insert d.files fh attr.node;
  next_node = if contains_key d.nodes attr.node then d.next_node else attr.node + 1;
  next_fh = fh + 1;
}

-- the same by the recorded answer
abbrev pub after_reply : Listing → Node → Result Answer Errno → Listing
after_reply d made (Ok (Made attr fh)) = after_made d made attr fh
after_reply d made other = d

-- the directory after a CREATE, by its recorded answer
abbrev pub after_create : Listing → ℕ → ℕ → ℕ → List ℕ → Result Answer Errno → Listing
after_create d uid gid mode name reply = after_reply d (made_node uid gid (file_mode mode) name) reply

-- the directory after an order that makes this node and doesn't open it, by its recorded answer
abbrev pub after_make : Listing → Node → Result Answer Errno → Listing
after_make d made (Ok (Entry attr)) =
    record d { nodes = insert d.nodes attr.node made; next_node = attr.node + 1 }
after_make d made other = d

-- the directory after a MKNOD, by its recorded answer
abbrev pub after_mknod : Listing → ℕ → ℕ → ℕ → List ℕ → Result Answer Errno → Listing
after_mknod d uid gid mode name reply = after_make d (made_node uid gid (mknod_mode mode) name) reply

-- the directory after a MKDIR, by its recorded answer
abbrev pub after_mkdir : Listing → ℕ → ℕ → ℕ → List ℕ → Result Answer Errno → Listing
after_mkdir d uid gid mode name reply = after_make d (made_node uid gid (folder_mode mode) name) reply

-- the directory after an OPEN of the node, by its recorded answer
abbrev pub after_open : Listing → ℕ → Result Answer Errno → Listing
after_open d node (Ok (Open fh)) = record d { files = insert d.files fh node; next_fh = fh + 1 }
after_open d node other = d

-- the directory without the name of this node, if there is one
abbrev pub unlinked : Listing → Option (ℕ × Node) → Listing
unlinked d None = d
unlinked d (Some found) = swept found.0 (record d { nodes = insert d.nodes found.0 (without_link found.1) })

-- the directory after an UNLINK or an RMDIR of the name, by its recorded answer
abbrev pub after_unlink : Listing → List ℕ → Result Answer Errno → Listing
after_unlink d name (Ok _) = unlinked d (linked d name)
after_unlink d name (Err e) = d

-- the directory after a FORGET of so many lookups of the node
abbrev pub after_forget : Listing → ℕ → ℕ → Listing
after_forget d node n = swept node (record d { nodes = changed_at d.nodes node (counted_down n) })

-- the directory after an fh of the node was closed, by its recorded answer
abbrev pub after_close : {X : Type 0} → Listing → ℕ → ℕ → Result X Errno → Listing
after_close d node fh (Ok _) = swept node (without_file d fh)
after_close d node fh (Err e) = d
