use Rattle.std.proofs.Common.{◌≤◌}
use Rattle.fl_arena.specs.Chains.{HasSizeOf}
use Rattle.fl_spans.proofs.Loops.{AreNumbered}
use Rattle.fl_spans.proofs.rows.add_heads.Given as goal

abbrev pub invariant-loop-number : goal.invariant-loop-number
invariant-loop-number g l = record {
  numbered : AreNumbered l.heads l.chain l.number l.count;
  upto : l.number ≤ l.count;
  size : HasSizeOf l.initial.heads l.heads;
}

abbrev pub decreases-loop-number : goal.decreases-loop-number
decreases-loop-number g l = l.number
