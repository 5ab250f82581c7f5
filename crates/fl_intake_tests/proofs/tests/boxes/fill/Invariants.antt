use Rattle.std.proofs.Common.{◌≡◌}
use Rattle.fl_intake_tests.proofs.tests.boxes.fill.Given as goal

abbrev pub invariant-loop-number : goal.invariant-loop-number
invariant-loop-number g l = l.put.of ≡ l.intake
