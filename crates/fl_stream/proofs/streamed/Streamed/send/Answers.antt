use Rattle.std.proofs.Common.{arith}
use Rattle.fl_stream.proofs.Streaming.{moved_on}
use Rattle.fl_stream.proofs.streamed.Streamed.send.Goals as goal

pub invariant_of-self : goal.invariant_of-self
invariant_of-self g c = (
  moved_on _ _ _ _ _ _ _ _ _ c.self.invariant.0 c.send.ensures.moved,
  omega (arith, c.self.invariant.1, c.send.ensures.capacity, c.send.ensures.fewer),
  omega (arith, c.self.invariant.2, c.send.ensures.capacity),
)
