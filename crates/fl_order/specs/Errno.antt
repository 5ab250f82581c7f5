-- The error numbers of Linux on most machines (`errno.h`).
use Rattle.std.specs.Prelude.{ℕ}
use Rattle.fl_order.specs.declared.errno.Errno.{Errno}
use Rattle.fl_order.specs.declared.errno.Errno.TheVariants.{EPERM, ENOENT, EINTR, EBADF, EAGAIN, ENOMEM, EEXIST}
use Rattle.fl_order.specs.declared.errno.Errno.TheVariants.{ENOTDIR, EISDIR, EINVAL, ENFILE, EFBIG, ENOSPC, EDEADLK}
use Rattle.fl_order.specs.declared.errno.Errno.TheVariants.{ENAMETOOLONG, ENOLCK, ENOSYS, EPROTO, EOPNOTSUPP}

-- the number of an error
abbrev pub number_of : Errno → ℕ
number_of EPERM = 1
number_of ENOENT = 2
number_of EINTR = 4
number_of EBADF = 9
number_of EAGAIN = 11
number_of ENOMEM = 12
number_of EEXIST = 17
number_of ENOTDIR = 20
number_of EISDIR = 21
number_of EINVAL = 22
number_of ENFILE = 23
number_of EFBIG = 27
number_of ENOSPC = 28
number_of EDEADLK = 35
number_of ENAMETOOLONG = 36
number_of ENOLCK = 37
number_of ENOSYS = 38
number_of EPROTO = 71
number_of EOPNOTSUPP = 95
