use Rattle.std.proofs.Common.{◌≡◌}
use Rattle.left_right.specs.Handles.{published, pending}
use Rattle.fl_replica.specs.Inside.Updates.{in_the_end}
use Rattle.fl_replica.proofs.replica_writer.add_nothing.Given as goal

-- all that was added changes nothing
abbrev pub invariant-loop : goal.invariant-loop
invariant-loop g l = in_the_end (published l.writer) (pending l.writer) ≡ l.asks
