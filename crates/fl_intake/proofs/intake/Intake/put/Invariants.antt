use Rattle.std.proofs.Common.{◌≡◌}
use Rattle.fl_intake.proofs.intake.Intake.put.Given as goal

abbrev pub invariant-loop : goal.invariant-loop
invariant-loop g l = (l.end ≡ l.fn.end) × (l.entry ≡ l.job)
