use Rattle.std.proofs.Common.{◌≤◌, vec_capacity}
use Rattle.fl_stream.proofs.TextPieces.{IsPrintedTo}
use Rattle.fl_stream.proofs.printing.write_lines.Given as goal

-- the lines up to here are written, or wait
abbrev pub invariant-loop-at : goal.invariant-loop-at
invariant-loop-at g l = (700 ≤ vec_capacity l.waiting)
    × IsPrintedTo l.history l.at l.waiting.items (g.W.Write.contents l.initial.writer) (g.W.Write.contents l.writer)
