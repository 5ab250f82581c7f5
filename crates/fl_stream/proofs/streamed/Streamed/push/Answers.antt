use Rattle.std.proofs.Common.{arith, ap}
use Rattle.fl_stream.proofs.Streaming.{line_waits, line_lost}
use Rattle.fl_stream.proofs.streamed.Streamed.push.Goals as goal

pub invariant_of-self : goal.invariant_of-self
invariant_of-self g c = (
  line_waits _ _ _ _ _ _ _ _ _ _ c.self.invariant.0 c.if-not-self.true c.push_line.ensures.bytes c.and-self-inside.ensures,
  omega (
    arith,
    c.self.invariant.1,
    c.push_line.ensures.few,
    c.push_line.ensures.capacity,
    c.requires.room,
    ap (λ s. s.room) c.self.view_is,
  ),
  omega (arith, c.self.invariant.2, c.push_line.ensures.capacity),
)

pub invariant_of-self-else-not-self : goal.invariant_of-self-else-not-self
invariant_of-self-else-not-self g c = (
  line_lost _ _ _ _ _ _ _ _ _ c.self.invariant.0 c.if-not-self.false c.and-self-inside.ensures,
  c.self.invariant.1,
  c.self.invariant.2,
)
