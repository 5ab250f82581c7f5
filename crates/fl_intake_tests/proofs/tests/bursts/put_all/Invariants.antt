use Rattle.std.proofs.Common.{◌≡◌}
use Rattle.fl_intake_tests.proofs.tests.bursts.put_all.Given as goal

abbrev pub invariant-loop : goal.invariant-loop
invariant-loop g l = l.put.of ≡ l.pool.intake
