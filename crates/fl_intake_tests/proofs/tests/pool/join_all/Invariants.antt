use Rattle.std.proofs.Common.{◌≡◌, All}
use Rattle.fl_intake_tests.proofs.tests.pool.join_all.Given as goal

abbrev pub invariant-loop-thread : goal.invariant-loop-thread
invariant-loop-thread g l = All (λ thread. thread.promise.was.value.of ≡ l.pool.intake) l.thread-iterator.rest.items
    × All (λ end. end.of ≡ l.pool.intake) l.ends.items
