use Rattle.std.proofs.Common.{ap, arith}
use Rattle.fl_intake.proofs.Steps.{puts, shares_of}
use Rattle.fl_intake.proofs.intake.Intake.put_if_room.Goals as goal

pub push_as-requires-clause-rule : goal.push_as-requires-clause-rule
push_as-requires-clause-rule g c =
    let end = c.end.invariant in
    (puts _ _ _ _ (omega (arith, c.self.invariant)) (omega (arith, ap shares_of end.1, end)), λ inside ends kept here. tt)
