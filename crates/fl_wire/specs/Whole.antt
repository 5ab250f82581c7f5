-- What messages ask that whole sessions alone answer: by their numbers in `enum fuse_opcode` of Linux `fuse.h`.
use Rattle.std.specs.Prelude.{ℕ, ◌+◌, ◌==◌, ◌||◌, Bool, if◌then◌else◌, List, length, sum, Option, None, Some}
use Rattle.fl_order.specs.declared.errno.Errno.TheVariants.{EPERM, EFBIG, EINVAL, EOPNOTSUPP}
use Rattle.fl_wire.specs.Layout.{field, in_header, opcode_of, read_in}
use Rattle.fl_wire.specs.declared.whole.WholeAsk.{WholeAsk}
use Rattle.fl_wire.specs.declared.whole.WholeAsk.TheVariants as ask

-- the message is an order of whole sessions alone: MKNOD, MKDIR or RMDIR
abbrev pub is_for_whole : List ℕ → Bool
is_for_whole bytes = (opcode_of bytes == 8) || ((opcode_of bytes == 9) || (opcode_of bytes == 11))

-- what a READDIR asks: its body is the fields of a `struct fuse_read_in`, of which the offset is the cookie
abbrev pub list_ask : List ℕ → WholeAsk
list_ask bytes =
    if length bytes == 40 + sum read_in
    then ask.List (field in_header 3 0 bytes) (field read_in 1 40 bytes) (field read_in 2 40 bytes)
    else ask.Refused EINVAL

-- What a message asks that is no order: there are no links and no other names for a file (SYMLINK, LINK, RENAME and
-- RENAME2), and files have no bytes (READ and WRITE); the others are STATFS and READDIR.
abbrev pub whole_ask : List ℕ → Option WholeAsk
whole_ask bytes =
    let is : ℕ → Bool = λ opcode. opcode_of bytes == opcode in
    if is 6 || is 13 then Some (ask.Refused EPERM)
    else if is 12 || is 45 then Some (ask.Refused EOPNOTSUPP)
    else if is 15 then Some ask.Read
    else if is 16 then Some (ask.Refused EFBIG)
    else if is 17 then Some ask.Statfs
    else if is 28 then Some (list_ask bytes)
    else None
