-- BATCH_FORGET: several FORGETs in one message, a pair of a node and a number of lookups for each.
use Rattle.std.specs.Prelude.{ℕ, ◌+◌, ◌*◌, ◌==◌, ◌&&◌, Bool, if◌then◌else◌, List, length, map, Option, None, Some}
use Rattle.std.specs.List.{range_with_len}
use Rattle.fl_order.specs.OpKind.{opcode_for}
use Rattle.fl_order.specs.declared.kind.OpKind.TheVariants.{BatchForget}
use Rattle.fl_order.specs.declared.order.Op.TheVariants.{Forget}
use Rattle.fl_order.specs.declared.order.Order.{Order}
use Rattle.fl_wire.specs.Layout.{field, in_header, batch_forget_in, forget_one, opcode_of, unique_of}

-- how many pairs a batch says that it has
abbrev pub pairs_said : List ℕ → ℕ
pairs_said bytes = field batch_forget_in 0 40 bytes

-- it is of this kind, and behind its fields it has as many pairs as it says, and nothing else
abbrev pub is_batch : List ℕ → Bool
is_batch bytes = (opcode_of bytes == opcode_for BatchForget) && (length bytes == 48 + 16 * pairs_said bytes)

-- The FORGET of pair `i`, counted from 0. Its node is the pair's, and not that of the message.
abbrev pub forget_at : List ℕ → ℕ → Order
forget_at bytes i = record {
  unique = unique_of bytes;
  node = field forget_one 0 (48 + 16 * i) bytes;
  uid = field in_header 4 0 bytes;
  gid = field in_header 5 0 bytes;
  pid = field in_header 6 0 bytes;
  op = Forget (field forget_one 1 (48 + 16 * i) bytes);
}

-- the FORGETs of a batch, in the order of its pairs
abbrev pub forgets_in : List ℕ → List Order
forgets_in bytes = map (forget_at bytes) (range_with_len 0 (pairs_said bytes))

-- the FORGETs of a message, if it is a batch
abbrev pub batch_in : List ℕ → Option (List Order)
batch_in bytes = if is_batch bytes then Some (forgets_in bytes) else None
