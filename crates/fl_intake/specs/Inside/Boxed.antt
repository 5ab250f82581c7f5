-- What an entry of the queue stands for.
use Rattle.std.specs.Prelude.{ℕ, List}
use Rattle.fl_order.specs.declared.order.Op.{Op}
use Rattle.fl_order.specs.declared.order.Op.TheVariants as op
use Rattle.fl_intake.specs.declared.entry.Naming.{Naming}
use Rattle.fl_intake.specs.declared.entry.Naming.TheVariants.{Lookup, Mknod, Mkdir, Unlink, Rmdir, Create}
use Rattle.fl_intake.specs.declared.entry.BoxedOp.{BoxedOp}
use Rattle.fl_intake.specs.declared.entry.BoxedOp.TheVariants.{Named, Forget, Getattr, Open, Release, Flush}
use Rattle.fl_intake.specs.declared.entry.BoxedOp.TheVariants.{Getlk, Setlk, Setlkw, Interrupt}

-- the op that asks this about a name
abbrev pub about : Naming → List ℕ → Op
about Lookup name = op.Lookup name
about (Mknod mode) name = op.Mknod mode name
about (Mkdir mode) name = op.Mkdir mode name
about Unlink name = op.Unlink name
about Rmdir name = op.Rmdir name
about (Create excl mode) name = op.Create excl mode name

-- the op, with its name out of the box
abbrev pub unboxed : BoxedOp → Op
unboxed (Named asked name) = about asked name.value
unboxed (Forget n) = op.Forget n
unboxed Getattr = op.Getattr
unboxed Open = op.Open
unboxed (Release fh unlocks owner) = op.Release fh unlocks owner
unboxed (Flush fh owner) = op.Flush fh owner
unboxed (Getlk ask) = op.Getlk ask
unboxed (Setlk ask) = op.Setlk ask
unboxed (Setlkw ask) = op.Setlkw ask
unboxed (Interrupt unique) = op.Interrupt unique
