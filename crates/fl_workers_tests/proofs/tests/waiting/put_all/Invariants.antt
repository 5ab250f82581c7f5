use Rattle.std.proofs.Common.{◌≡◌}
use Rattle.fl_workers_tests.proofs.tests.waiting.put_all.Given as goal

abbrev pub invariant-loop-order : goal.invariant-loop-order
invariant-loop-order g l = l.put.of ≡ l.intake
