use Rattle.std.proofs.Common.{arith}
use Rattle.fl_stream.proofs.TextPieces.{printed_all, printed_moved, printed_line, printed_some}
use Rattle.fl_stream.proofs.printing.write_lines.Goals as goal

pub returns-then-not-make_room-clause-begun : goal.returns-then-not-make_room-clause-begun
returns-then-not-make_room-clause-begun g c =
    printed_some _ _ _ _ _ (printed_moved _ _ _ _ _ _ _ c.loop-at.invariant.1 c.make_room.ensures.moved)

pub loop-at-preserved : goal.loop-at-preserved
loop-at-preserved g c = (
  omega (arith, c.push_line.ensures.capacity, c.make_room.ensures.capacity, c.loop-at.invariant.0),
  printed_line _ _ _ _ _ _ _ (printed_moved _ _ _ _ _ _ _ c.loop-at.invariant.1 c.make_room.ensures.moved)
      c.line.ensures c.push_line.ensures.bytes,
)

pub returns-clause-written : goal.returns-clause-written
returns-clause-written g c done =
    printed_all _ _ _ _ _ (printed_moved _ _ _ _ _ _ _ c.loop-at.invariant.1 c.finish.ensures.moved)
    (omega (arith, c.loop-at-test.false, c.len-at-end.ensures.len)) (c.finish.ensures.all done)

pub returns-clause-begun : goal.returns-clause-begun
returns-clause-begun g c =
    printed_some _ _ _ _ _ (printed_moved _ _ _ _ _ _ _ c.loop-at.invariant.1 c.finish.ensures.moved)
