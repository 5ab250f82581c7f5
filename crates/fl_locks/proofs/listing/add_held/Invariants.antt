use Rattle.std.proofs.Common.{◌≡◌, ◌++◌, map, take}
use Rattle.fl_locks.specs.LockRows.{held_row}
use Rattle.fl_locks.proofs.listing.add_held.Given as goal

abbrev pub invariant-loop-run : goal.invariant-loop-run
invariant-loop-run l = l.rows.items ≡ l.fn.rows.items ++ map (held_row l.directory) (take l.run-index l.runs)
