-- The structs of Linux `fuse.h` (protocol 7.31) as lists of the widths of their fields, in bytes. Fields
-- stand in the struct's order, without gaps, and each is a number whose lowest byte is first.
use Rattle.std.specs.Prelude.{ℕ, ◌+◌, ◌==◌, if◌then◌else◌, List, [], ◌∷◌, ◌++◌, drop, slice_index}
use Rattle.byteorder.specs.Endian.{little_number, little_bytes}

-- the number in `width` bytes from byte `start` on
unfoldable pub number_at : ℕ → ℕ → List ℕ → ℕ
number_at width start bytes = little_number width (drop start bytes)

-- the values of a struct's fields, if it begins at byte `start`
abbrev pub values_at : List ℕ → ℕ → List ℕ → List ℕ
values_at [] start bytes = []
values_at (width ∷ widths) start bytes = number_at width start bytes ∷ values_at widths (start + width) bytes

-- the value of field `k`, counted from 0
abbrev pub field : List ℕ → ℕ → ℕ → List ℕ → ℕ
field widths k start bytes = slice_index (values_at widths start bytes) k

-- the bytes of a struct whose fields have these values
abbrev pub laid_out : List ℕ → List ℕ → List ℕ
laid_out [] values = []
laid_out (width ∷ widths) [] = []
laid_out (width ∷ widths) (value ∷ values) = little_bytes width value ++ laid_out widths values

-- struct fuse_in_header: len, opcode, unique, nodeid, uid, gid, pid, padding
abbrev pub in_header : List ℕ
in_header = 4 ∷ 4 ∷ 8 ∷ 8 ∷ 4 ∷ 4 ∷ 4 ∷ 4 ∷ []

-- how many bytes the message has, with its header
abbrev pub len_of : List ℕ → ℕ
len_of bytes = field in_header 0 0 bytes

-- what kind of message it is
abbrev pub opcode_of : List ℕ → ℕ
opcode_of bytes = field in_header 1 0 bytes

-- the number by which its reply is known
abbrev pub unique_of : List ℕ → ℕ
unique_of bytes = field in_header 2 0 bytes

-- struct fuse_forget_in: nlookup
abbrev pub forget_in : List ℕ
forget_in = 8 ∷ []

-- struct fuse_getattr_in: getattr_flags, dummy, fh
abbrev pub getattr_in : List ℕ
getattr_in = 4 ∷ 4 ∷ 8 ∷ []

-- struct fuse_open_in: flags, unused
abbrev pub open_in : List ℕ
open_in = 4 ∷ 4 ∷ []

-- struct fuse_release_in: fh, flags, release_flags, lock_owner
abbrev pub release_in : List ℕ
release_in = 8 ∷ 4 ∷ 4 ∷ 8 ∷ []

-- struct fuse_flush_in: fh, unused, padding, lock_owner
abbrev pub flush_in : List ℕ
flush_in = 8 ∷ 4 ∷ 4 ∷ 8 ∷ []

-- struct fuse_create_in: flags, mode, umask, padding
abbrev pub create_in : List ℕ
create_in = 4 ∷ 4 ∷ 4 ∷ 4 ∷ []

-- struct fuse_mknod_in: mode, rdev, umask, padding
abbrev pub mknod_in : List ℕ
mknod_in = 4 ∷ 4 ∷ 4 ∷ 4 ∷ []

-- struct fuse_mkdir_in: mode, umask
abbrev pub mkdir_in : List ℕ
mkdir_in = 4 ∷ 4 ∷ []

-- the fields of a MKDIR (opcode 9), or else of a MKNOD
abbrev pub make_in : ℕ → List ℕ
make_in opcode = if opcode == 9 then mkdir_in else mknod_in

-- struct fuse_lk_in: fh, owner, the lock's start, end, type and pid, lk_flags, padding
abbrev pub lk_in : List ℕ
lk_in = 8 ∷ 8 ∷ 8 ∷ 8 ∷ 4 ∷ 4 ∷ 4 ∷ 4 ∷ []

-- struct fuse_read_in: fh, offset, size, read_flags, lock_owner, flags, padding
abbrev pub read_in : List ℕ
read_in = 8 ∷ 8 ∷ 4 ∷ 4 ∷ 8 ∷ 4 ∷ 4 ∷ []

-- struct fuse_batch_forget_in: count, dummy
abbrev pub batch_forget_in : List ℕ
batch_forget_in = 4 ∷ 4 ∷ []

-- struct fuse_forget_one: nodeid, nlookup
abbrev pub forget_one : List ℕ
forget_one = 8 ∷ 8 ∷ []

-- struct fuse_init_in: major, minor, max_readahead, flags
abbrev pub init_in : List ℕ
init_in = 4 ∷ 4 ∷ 4 ∷ 4 ∷ []

-- struct fuse_out_header: len, error, unique
abbrev pub out_header : List ℕ
out_header = 4 ∷ 4 ∷ 8 ∷ []

-- struct fuse_attr: ino, size, blocks, atime, mtime, ctime, then atimensec, mtimensec, ctimensec, mode,
-- nlink, uid, gid, rdev, blksize, padding
abbrev pub attr : List ℕ
attr = 8 ∷ 8 ∷ 8 ∷ 8 ∷ 8 ∷ 8 ∷ 4 ∷ 4 ∷ 4 ∷ 4 ∷ 4 ∷ 4 ∷ 4 ∷ 4 ∷ 4 ∷ 4 ∷ []

-- struct fuse_entry_out, up to its attributes: nodeid, generation, entry_valid, attr_valid,
-- entry_valid_nsec, attr_valid_nsec
abbrev pub entry_out : List ℕ
entry_out = 8 ∷ 8 ∷ 8 ∷ 8 ∷ 4 ∷ 4 ∷ []

-- struct fuse_attr_out, up to its attributes: attr_valid, attr_valid_nsec, dummy
abbrev pub attr_out : List ℕ
attr_out = 8 ∷ 4 ∷ 4 ∷ []

-- struct fuse_open_out: fh, open_flags, padding
abbrev pub open_out : List ℕ
open_out = 8 ∷ 4 ∷ 4 ∷ []

-- struct fuse_lk_out, a struct fuse_file_lock: start, end, type, pid
abbrev pub lk_out : List ℕ
lk_out = 8 ∷ 8 ∷ 4 ∷ 4 ∷ []

-- struct fuse_dirent, up to its name: ino, off, namelen, type
abbrev pub dirent : List ℕ
dirent = 8 ∷ 8 ∷ 4 ∷ 4 ∷ []

-- struct fuse_statfs_out, a struct fuse_kstatfs: blocks, bfree, bavail, files, ffree, bsize, namelen, frsize, padding,
-- and six spare words
abbrev pub statfs_out : List ℕ
statfs_out = 8 ∷ 8 ∷ 8 ∷ 8 ∷ 8 ∷ 4 ∷ 4 ∷ 4 ∷ 4 ∷ 4 ∷ 4 ∷ 4 ∷ 4 ∷ 4 ∷ 4 ∷ []

-- struct fuse_init_out, up to its unused bytes: major, minor, max_readahead, flags, max_background,
-- congestion_threshold, max_write, time_gran
abbrev pub init_out : List ℕ
init_out = 4 ∷ 4 ∷ 4 ∷ 4 ∷ 2 ∷ 2 ∷ 4 ∷ 4 ∷ []
