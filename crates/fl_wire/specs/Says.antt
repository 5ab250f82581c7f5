-- What a message says as an order, and how one that says none is refused.
use Rattle.std.specs.Prelude.{ℕ, ◌==◌, not, bit_and, if◌then◌else◌, List, [], slice_index, Option, None, Some, Result}
use Rattle.std.specs.Prelude.{Ok, Err}
use Rattle.std.specs.Option.{ok_or}
use Rattle.fl_order.specs.OpKind.{kind_of_opcode, refusal_for, shape_for}
use Rattle.fl_order.specs.Order.{op_of}
use Rattle.fl_order.specs.declared.body.Body.{Body}
use Rattle.fl_order.specs.declared.body.Body.TheVariants as body
use Rattle.fl_order.specs.declared.body.Shape.{Shape}
use Rattle.fl_order.specs.declared.body.Shape.TheVariants as shape
use Rattle.fl_order.specs.declared.errno.Errno.{Errno}
use Rattle.fl_order.specs.declared.errno.Errno.TheVariants.{ENOSYS}
use Rattle.fl_order.specs.declared.kind.OpKind.{OpKind}
use Rattle.fl_order.specs.declared.order.Order.{Order}
use Rattle.fl_order.specs.declared.order.LockAsk.{LockAsk}
use Rattle.fl_order.specs.declared.order.Op.{Op}
use Rattle.fl_order.specs.declared.refusal.Refusal.{Refusal}
use Rattle.fl_order.specs.declared.refusal.Refusal.TheVariants.{Answer, Batch}
use Rattle.fl_wire.specs.Batch.{is_batch}
use Rattle.fl_wire.specs.Body.{by_fields, by_fields_and_name}
use Rattle.fl_wire.specs.Layout.{field, in_header, create_in, flush_in, forget_in, getattr_in, lk_in, make_in, open_in}
use Rattle.fl_wire.specs.Layout.{release_in}
use Rattle.fl_wire.specs.Layout.{opcode_of, unique_of}

-- the lock request of these fields
abbrev pub lock_of : List ℕ → LockAsk
lock_of values = record {
  fh = slice_index values 0;
  owner = slice_index values 1;
  start = slice_index values 2;
  end = slice_index values 3;
  kind = slice_index values 4;
  pid = slice_index values 5;
  flags = slice_index values 6;
}

-- the body of a CREATE with these fields and name: `O_EXCL` is octal 200 of the flags, and of the mode the permissions
-- are kept
abbrev pub create_of : List ℕ → List ℕ → Body
create_of values name =
    body.Create (not (bit_and (slice_index values 0) 128 == 0)) (bit_and (slice_index values 1) 511) name

-- the body of a RELEASE with these fields: bit 1 of its release flags (`FUSE_RELEASE_FLOCK_UNLOCK`) drops the
-- whole-file lock
abbrev pub release_of : List ℕ → Body
release_of values =
    body.Release (slice_index values 0) (not (bit_and (slice_index values 2) 2 == 0)) (slice_index values 3)

-- the body of this shape
abbrev pub body_in : Shape → List ℕ → Result Body Errno
body_in shape.Lock bytes = by_fields lk_in (λ values. body.Lock (lock_of values)) bytes
body_in shape.Create bytes = by_fields_and_name create_in create_of bytes
body_in shape.Make bytes =
    by_fields_and_name (make_in (opcode_of bytes)) (λ values name. body.Make (slice_index values 0) name) bytes
body_in shape.Name bytes = by_fields_and_name [] (λ values name. body.Name name) bytes
body_in shape.Number bytes = by_fields forget_in (λ values. body.Number (slice_index values 0)) bytes
body_in shape.Flush bytes =
    by_fields flush_in (λ values. body.Flush (slice_index values 0) (slice_index values 3)) bytes
body_in shape.Release bytes = by_fields release_in release_of bytes
body_in shape.Getattr bytes = by_fields getattr_in (λ values. body.Getattr) bytes
body_in shape.Open bytes = by_fields open_in (λ values. body.Open) bytes

-- what a message of this kind asks, by its body or the body's fault. A kind has an order of each body of its shape, so
-- the error for none never comes.
abbrev pub asked_with : OpKind → Result Body Errno → Result Op Refusal
asked_with kind (Ok said) = ok_or (op_of kind said) (Answer ENOSYS)
asked_with kind (Err e) = Err (refusal_for kind e)

-- what a message of this kind asks, if its bodies have this shape
abbrev pub asked_by : OpKind → Result Shape Refusal → List ℕ → Result Op Refusal
asked_by kind (Ok shape) bytes = asked_with kind (body_in shape bytes)
asked_by kind (Err refusal) bytes = Err refusal

-- what a message of this kind asks
abbrev pub asked : Option OpKind → List ℕ → Result Op Refusal
asked None bytes = Err (Answer ENOSYS)
asked (Some kind) bytes = asked_by kind (shape_for kind) bytes

-- the order whose operation this is
abbrev pub order_of : List ℕ → Result Op Refusal → Result Order Refusal
order_of bytes (Ok op) = Ok (record {
  unique = unique_of bytes;
  node = field in_header 3 0 bytes;
  uid = field in_header 4 0 bytes;
  gid = field in_header 5 0 bytes;
  pid = field in_header 6 0 bytes;
  op = op;
})
order_of bytes (Err refusal) = Err refusal

-- what a message says: an order, or a refusal, which is that it is a batch if it is several orders
abbrev pub said : List ℕ → Result Order Refusal
said bytes = if is_batch bytes then Err Batch else order_of bytes (asked (kind_of_opcode (opcode_of bytes)) bytes)
