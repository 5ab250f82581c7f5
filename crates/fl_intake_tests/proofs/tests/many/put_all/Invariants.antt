use Rattle.std.proofs.Common.{◌≡◌}
use Rattle.fl_intake_tests.proofs.tests.many.put_all.Given as goal

abbrev pub invariant-loop-unique : goal.invariant-loop-unique
invariant-loop-unique g l = l.put.of ≡ l.intake
