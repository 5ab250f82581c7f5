use Rattle.std.proofs.Common.{ap, arith}
use Rattle.fl_intake.proofs.Steps.{takes, tells, shares_of}
use Rattle.fl_intake.proofs.intake.Intake.pop.Goals as goal

pub pop_as-requires-clause-rule : goal.pop_as-requires-clause-rule
pop_as-requires-clause-rule g c = (takes _ _ (omega (arith, ap shares_of c.end.invariant.1)), tells _ _)
