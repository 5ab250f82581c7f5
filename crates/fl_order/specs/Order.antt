-- Orders: their kinds and bodies, and which of them change nothing.
use Rattle.std.specs.Prelude.{Bool, true, false, Option, Some, None}
use Rattle.fl_order.specs.declared.body.Body.{Body}
use Rattle.fl_order.specs.declared.body.Body.TheVariants as body
use Rattle.fl_order.specs.declared.kind.OpKind.{OpKind}
use Rattle.fl_order.specs.declared.kind.OpKind.TheVariants as kind
use Rattle.fl_order.specs.declared.order.Op.{Op}
use Rattle.fl_order.specs.declared.order.Op.TheVariants.{Lookup, Forget, Getattr, Unlink, Open, Release, Flush}
use Rattle.fl_order.specs.declared.order.Op.TheVariants.{Create, Getlk, Setlk, Setlkw, Interrupt, Mknod, Mkdir, Rmdir}

-- the kind of its message, and the body
abbrev pub parts_of : Op → OpKind × Body
parts_of (Lookup name) = (kind.Lookup, body.Name name)
parts_of (Forget n) = (kind.Forget, body.Number n)
parts_of Getattr = (kind.Getattr, body.Getattr)
parts_of (Mknod mode name) = (kind.Mknod, body.Make mode name)
parts_of (Mkdir mode name) = (kind.Mkdir, body.Make mode name)
parts_of (Unlink name) = (kind.Unlink, body.Name name)
parts_of (Rmdir name) = (kind.Rmdir, body.Name name)
parts_of Open = (kind.Open, body.Open)
parts_of (Release fh unlocks owner) = (kind.Release, body.Release fh unlocks owner)
parts_of (Flush fh owner) = (kind.Flush, body.Flush fh owner)
parts_of (Create excl mode name) = (kind.Create, body.Create excl mode name)
parts_of (Getlk ask) = (kind.Getlk, body.Lock ask)
parts_of (Setlk ask) = (kind.Setlk, body.Lock ask)
parts_of (Setlkw ask) = (kind.Setlkw, body.Lock ask)
parts_of (Interrupt unique) = (kind.Interrupt, body.Number unique)

-- the kind of its message
abbrev pub kind_of : Op → OpKind
kind_of op = (parts_of op).0

-- the body of its message
abbrev pub body_of : Op → Body
body_of op = (parts_of op).1

-- the order of this kind and body; none if the kind is no order's, or its orders have bodies of another shape
abbrev pub op_of : OpKind → Body → Option Op
op_of kind.Lookup (body.Name name) = Some (Lookup name)
op_of kind.Forget (body.Number n) = Some (Forget n)
op_of kind.Getattr body.Getattr = Some Getattr
op_of kind.Mknod (body.Make mode name) = Some (Mknod mode name)
op_of kind.Mkdir (body.Make mode name) = Some (Mkdir mode name)
op_of kind.Unlink (body.Name name) = Some (Unlink name)
op_of kind.Rmdir (body.Name name) = Some (Rmdir name)
op_of kind.Open body.Open = Some Open
op_of kind.Release (body.Release fh unlocks owner) = Some (Release fh unlocks owner)
op_of kind.Flush (body.Flush fh owner) = Some (Flush fh owner)
op_of kind.Create (body.Create excl mode name) = Some (Create excl mode name)
op_of kind.Getlk (body.Lock ask) = Some (Getlk ask)
op_of kind.Setlk (body.Lock ask) = Some (Setlk ask)
op_of kind.Setlkw (body.Lock ask) = Some (Setlkw ask)
op_of kind.Interrupt (body.Number unique) = Some (Interrupt unique)
op_of _ _ = None

-- it asks for what is there, and changes nothing whatever it is answered
abbrev pub only_reads : Op → Bool
only_reads Getattr = true
only_reads (Getlk ask) = true
only_reads _ = false
