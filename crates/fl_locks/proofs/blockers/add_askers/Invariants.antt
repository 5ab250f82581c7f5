use Rattle.std.proofs.Common.{◌≡◌, ◌++◌, map, take}
use Rattle.std.specs.List.{filter}
use Rattle.fl_locks.specs.LockRows.{asker, goes_first}
use Rattle.fl_locks.specs.Inside.{meant, requests_of}
use Rattle.fl_locks.proofs.blockers.add_askers.Given as goal

abbrev pub invariant-loop-claim : goal.invariant-loop-claim
invariant-loop-claim l =
    l.found.items ≡ l.fn.found.items ++ map asker (filter (goes_first (meant l.wanted)) (requests_of (take l.claim-index l.older)))
