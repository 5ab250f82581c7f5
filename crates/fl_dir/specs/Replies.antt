-- What orders on names, nodes and open files are answered: by the first of their tests that fails, in the order written
-- (FUSE_LOOKUP, FUSE_CREATE, FUSE_MKNOD, FUSE_MKDIR, FUSE_OPEN, FUSE_GETATTR, FUSE_UNLINK, FUSE_RMDIR and FUSE_RELEASE
-- of Linux `fuse.h`).
use Rattle.std.specs.Prelude.{ℕ, ◌-◌, ◌^◌, Bool, true, not, ◌||◌, ◌==◌, Option, Some, None, Result, Ok, Err, List}
use Rattle.std.specs.Prelude.{if◌then◌else◌}
use Rattle.fl_dir.specs.declared.node.Node.{Node}
use Rattle.fl_dir.specs.declared.dir.Closed.{Closed}
use Rattle.fl_dir.specs.Directory.{Listing, is_known, is_reserved, linked, nodes_full, made_node, attributes}
use Rattle.fl_dir.specs.Directory.{attributes_at, file_mode, folder_mode, is_folder, is_folder_at, is_regular}
use Rattle.fl_dir.specs.Directory.{mknod_mode}
use Rattle.fl_dir.specs.OpenFiles.{files_full, is_open_on, has_open_file, without_file}
use Rattle.fl_order.specs.declared.errno.Errno.{Errno}
use Rattle.fl_order.specs.declared.errno.Errno.TheVariants.{ENOENT, EBADF, EEXIST, ENOTDIR, EISDIR, EINVAL, ENFILE}
use Rattle.fl_order.specs.declared.errno.Errno.TheVariants.{ENOSPC, EPERM}
use Rattle.fl_order.specs.declared.told.Answer.{Answer}
use Rattle.fl_order.specs.declared.told.Answer.TheVariants.{Done, Entry, Attr as Attributes, Open, Made}
use Rattle.fl_order.specs.declared.told.Attr.{Attr}

-- why the node has no names in it: it is unknown, a folder, for which the error is said, or a file
abbrev pub names_error : Errno → Listing → ℕ → Option Errno
names_error e d node =
    if not (is_known d node) then Some ENOENT
    else (if node == 1 then None
    else (if is_folder_at d node then Some e
    else Some ENOTDIR))

-- the same of a name that is looked for: a folder that isn't the root is empty
abbrev pub directory_error : Listing → ℕ → Option Errno
directory_error d node = names_error ENOENT d node

-- the same of a name that is made: nothing can be made in such a folder
abbrev pub making_error : Listing → ℕ → Option Errno
making_error d node = names_error EPERM d node

-- the reply, or the error if there is one
abbrev pub unless_error : Option Errno → Result Answer Errno → Result Answer Errno
unless_error None reply = reply
unless_error (Some e) reply = Err e

-- a node's lookup count can't grow
abbrev pub lookups_full : Node → Bool
lookups_full node = node.lookups == 2 ^ 64 - 1

-- LOOKUP of a name that is linked to this node, or to none
abbrev pub found_reply : Option (ℕ × Node) → Result Answer Errno
found_reply None = Err ENOENT
found_reply (Some found) = if lookups_full found.1 then Err ENFILE else Ok (Entry (attributes found.0 found.1))

-- what a LOOKUP is answered
abbrev pub lookup_reply : Listing → ℕ → List ℕ → Result Answer Errno
lookup_reply d node name = unless_error (directory_error d node) (found_reply (linked d name))

-- CREATE of a name that is linked
abbrev pub reopened : Listing → Bool → (ℕ × Node) → Result Answer Errno
reopened d excl found =
    if excl then Err EEXIST
    else (if is_folder found.1 then Err EISDIR
    else (if lookups_full found.1 then Err ENFILE
    else (if files_full d then Err ENFILE
    else Ok (Made (attributes found.0 found.1) d.next_fh))))

-- CREATE of a name that is free
abbrev pub created : Listing → Node → Result Answer Errno
created d node =
    if nodes_full d then Err ENOSPC
    else (if files_full d then Err ENFILE
    else Ok (Made (attributes d.next_node node) d.next_fh))

-- CREATE of a name that a file can have
abbrev pub created_or_reopened : Listing → Bool → Node → Option (ℕ × Node) → Result Answer Errno
created_or_reopened d excl node None = created d node
created_or_reopened d excl node (Some found) = reopened d excl found

-- what a CREATE is answered
abbrev pub create_reply : Listing → ℕ → ℕ → ℕ → Bool → ℕ → List ℕ → Result Answer Errno
create_reply d node uid gid excl mode name =
    unless_error (making_error d node)
    (if is_reserved name then Err EINVAL
    else created_or_reopened d excl (made_node uid gid (file_mode mode) name) (linked d name))

-- a name that is free gets this node, which isn't opened
abbrev pub made : Listing → Node → Result Answer Errno
made d node = if nodes_full d then Err ENOSPC else Ok (Entry (attributes d.next_node node))

-- the reply, or that there is a node of the name
abbrev pub if_free : Option (ℕ × Node) → Result Answer Errno → Result Answer Errno
if_free None reply = reply
if_free (Some found) reply = Err EEXIST

-- what is answered to an order that makes this node, if its file type can be made
abbrev pub make_reply : Listing → ℕ → Bool → Node → Result Answer Errno
make_reply d node can new =
    unless_error (making_error d node)
    (if is_reserved new.name then Err EINVAL
    else if_free (linked d new.name) (if can then made d new else Err EPERM))

-- what a MKNOD is answered
abbrev pub mknod_reply : Listing → ℕ → ℕ → ℕ → ℕ → List ℕ → Result Answer Errno
mknod_reply d node uid gid mode name =
    make_reply d node (is_regular mode) (made_node uid gid (mknod_mode mode) name)

-- what a MKDIR is answered
abbrev pub mkdir_reply : Listing → ℕ → ℕ → ℕ → ℕ → List ℕ → Result Answer Errno
mkdir_reply d node uid gid mode name = make_reply d node true (made_node uid gid (folder_mode mode) name)

-- what an OPEN is answered
abbrev pub open_reply : Listing → ℕ → Result Answer Errno
open_reply d node =
    if not (is_known d node) then Err ENOENT
    else (if (node == 1) || is_folder_at d node then Err EISDIR
    else (if files_full d then Err ENFILE
    else Ok (Open d.next_fh)))

-- the answer that tells these attributes, if there are any
abbrev pub attr_reply : Option Attr → Result Answer Errno
attr_reply None = Err ENOENT
attr_reply (Some attr) = Ok (Attributes attr)

-- what a GETATTR is answered
abbrev pub getattr_reply : Listing → ℕ → Result Answer Errno
getattr_reply d node = attr_reply (attributes_at d node)

-- UNLINK of a name that is linked to this node, or to none
abbrev pub unlinked_reply : Option (ℕ × Node) → Result Answer Errno
unlinked_reply None = Err ENOENT
unlinked_reply (Some found) = if is_folder found.1 then Err EISDIR else Ok Done

-- what an UNLINK is answered
abbrev pub unlink_reply : Listing → ℕ → List ℕ → Result Answer Errno
unlink_reply d node name = unless_error (directory_error d node) (unlinked_reply (linked d name))

-- RMDIR of a name that is linked to this node, or to none
abbrev pub removed_reply : Option (ℕ × Node) → Result Answer Errno
removed_reply None = Err ENOENT
removed_reply (Some found) = if is_folder found.1 then Ok Done else Err ENOTDIR

-- what an RMDIR is answered
abbrev pub rmdir_reply : Listing → ℕ → List ℕ → Result Answer Errno
rmdir_reply d node name = unless_error (directory_error d node) (removed_reply (linked d name))

-- what closing an fh gives: its node, and whether no fh is left open on it
abbrev pub close_reply : Listing → ℕ → ℕ → Result Closed Errno
close_reply d node fh =
    if is_open_on d fh node
    then Ok (record { node = node; last = not (has_open_file (without_file d fh) node) })
    else Err EBADF
