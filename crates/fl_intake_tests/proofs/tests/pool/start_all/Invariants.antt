use Rattle.std.proofs.Common.{◌≡◌, All}
use Rattle.fl_intake_tests.proofs.tests.pool.start_all.Given as goal

abbrev pub invariant-loop-end : goal.invariant-loop-end
invariant-loop-end g l = All (λ end. end.of ≡ l.pool.intake) l.end-iterator.rest.items
    × All (λ thread. thread.promise.was.value.of ≡ l.pool.intake) l.threads.items
