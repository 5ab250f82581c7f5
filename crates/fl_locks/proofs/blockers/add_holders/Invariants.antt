use Rattle.std.proofs.Common.{◌≡◌, ◌++◌, map, take}
use Rattle.std.specs.List.{filter}
use Rattle.fl_waiting.specs.Waiting.{older_blocks}
use Rattle.fl_locks.specs.LockRows.{lock_on, holder}
use Rattle.fl_locks.specs.Inside.{meant}
use Rattle.fl_locks.proofs.blockers.add_holders.Given as goal

abbrev pub invariant-loop-run : goal.invariant-loop-run
invariant-loop-run l =
    l.found.items ≡ l.fn.found.items ++ map holder (filter (λ r. older_blocks (meant l.wanted) (lock_on r)) (take l.run-index l.runs))
