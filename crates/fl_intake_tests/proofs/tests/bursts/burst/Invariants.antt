use Rattle.std.proofs.Common.{◌≡◌}
use Rattle.fl_intake_tests.proofs.tests.bursts.burst.Given as goal

abbrev pub invariant-loop-at : goal.invariant-loop-at
invariant-loop-at g l = l.put.of ≡ l.pool.intake
