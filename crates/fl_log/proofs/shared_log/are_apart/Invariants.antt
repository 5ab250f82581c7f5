use Rattle.std.proofs.Common.{take}
use Rattle.fl_log.specs.Appended.{AreApart}
use Rattle.fl_log.proofs.shared_log.are_apart.Given as goal

abbrev pub invariant-loop-i : goal.invariant-loop-i
invariant-loop-i g l = AreApart (take l.i l.appenders)
