use Rattle.std.proofs.Common.{◌≡◌, ◌++◌, [], take, drop}
use Rattle.fl_locks.specs.LockRows.{waiting_rows}
use Rattle.fl_locks.specs.Inside.{requests_of}
use Rattle.fl_locks.proofs.listing.add_waiting.Given as goal

abbrev pub invariant-loop-i : goal.invariant-loop-i
invariant-loop-i l =
    l.rows.items ++ waiting_rows l.core (requests_of (take l.i l.claims)) (requests_of (drop l.i l.claims))
    ≡ l.fn.rows.items ++ waiting_rows l.core [] (requests_of l.claims)
