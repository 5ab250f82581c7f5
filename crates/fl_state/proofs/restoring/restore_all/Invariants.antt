use Rattle.std.proofs.Common.{take}
use Rattle.fl_state.proofs.Restorings.{AreBack}
use Rattle.fl_state.proofs.restoring.restore_all.Given as goal

abbrev pub invariant-loop-i : goal.invariant-loop-i
invariant-loop-i l = AreBack l.fn.core l.core (take l.i l.parts)
