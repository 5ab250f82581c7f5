use Rattle.std.proofs.Common.{◌≡◌}
use Rattle.fl_arena.specs.Cursors.{cursor_at}
use Rattle.fl_ranges_tests.proofs.tests.arena.holds.Given as goal

abbrev pub invariant-loop-item : goal.invariant-loop-item
invariant-loop-item g l = l.cursor ≡ cursor_at l.arena l.chain l.cursor.index
