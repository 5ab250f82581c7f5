-- The bytes handed out are as many as their own length says.
use Rattle.std.proofs.Common.{arith}
use Rattle.fl_wire.proofs.Numbers.{is_message-take}
use Rattle.fl_wire.proofs.cut.next_frame.Goals as goal

pub invariant_of-result : goal.invariant_of-result
invariant_of-result c =
    is_message-take c.u32_at-len.result c.args.bytes.now c.u32_at-len.ensures (omega arith) (omega arith) (omega arith)
