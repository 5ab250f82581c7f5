use Rattle.std.proofs.Common.{◌≡◌, ◌-◌, ◌≤◌, length, take}
use Rattle.fl_arena.specs.Chains.{items}
use Rattle.fl_arena.specs.Cursors.{cursor_at}
use Rattle.fl_waiting.proofs.parked.copied.Given as goal

abbrev pub invariant-loop-claim : goal.invariant-loop-claim
invariant-loop-claim l = record {
  at : l.cursor ≡ cursor_at l.claims 0 l.cursor.index;
  within : l.cursor.index ≤ length (items l.claims 0);
  copied : l.copies.items ≡ take l.cursor.index (items l.claims 0);
}

abbrev pub decreases-loop-claim : goal.decreases-loop-claim
decreases-loop-claim l = length (items l.claims 0) - l.cursor.index
