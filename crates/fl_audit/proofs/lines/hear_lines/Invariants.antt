use Rattle.std.proofs.Common.{length}
use Rattle.fl_audit.proofs.Hearing.{IsHearing}
use Rattle.fl_audit.proofs.lines.hear_lines.Given as goal

abbrev pub invariant-loop-most : goal.invariant-loop-most
invariant-loop-most l = IsHearing l.most l.initial.judge l.judge l.text l.rest

abbrev pub decreases-loop-most : goal.decreases-loop-most
decreases-loop-most l = length l.rest
