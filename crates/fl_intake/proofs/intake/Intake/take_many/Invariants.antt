use Rattle.std.proofs.Common.{◌≡◌, ◌≤◌, ◌++◌, length, vec_capacity}
use Rattle.fl_intake.proofs.intake.Intake.take_many.Given as goal

abbrev pub invariant-loop : goal.invariant-loop
invariant-loop g l = (l.end.of ≡ l.self) × (l.end.taken ≡ l.fn.end.taken ++ l.batch.items)
    × (vec_capacity l.batch ≡ vec_capacity l.fn.batch) × (length l.batch.items ≤ l.counter)
