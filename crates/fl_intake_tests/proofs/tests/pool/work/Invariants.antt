use Rattle.std.proofs.Common.{◌≡◌, ◌<◌, [], vec_capacity}
use Rattle.fl_intake_tests.proofs.tests.pool.work.Given as goal

abbrev pub invariant-loop : goal.invariant-loop
invariant-loop g l = (l.end.of ≡ l.pool.intake) × (l.end.of ≡ l.fn.end.of) × (l.batch.items ≡ [])
    × (0 < vec_capacity l.batch)
