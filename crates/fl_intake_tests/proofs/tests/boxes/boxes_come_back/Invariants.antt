use Rattle.std.proofs.Common.{◌≡◌}
use Rattle.fl_intake_tests.proofs.tests.boxes.boxes_come_back.Given as goal

abbrev pub invariant-loop-number : goal.invariant-loop-number
invariant-loop-number g l = (l.put.of ≡ l.intake) × (l.end.of ≡ l.intake)
