use Rattle.std.proofs.Common.{◌≡◌, ◌-◌, ◌≤◌, length, map, take}
use Rattle.fl_arena.specs.Chains.{items}
use Rattle.fl_arena.specs.Cursors.{cursor_at}
use Rattle.fl_waiting.specs.Waiting.{wishes}
use Rattle.fl_waiting.specs.Inside.Claims.{requests_of}
use Rattle.fl_waiting.specs.Wanted.{meant, AreNumbered}
use Rattle.fl_waiting.proofs.wanted.copy_wanted.Given as goal

abbrev pub invariant-loop-claim : goal.invariant-loop-claim
invariant-loop-claim l = record {
  at : l.cursor ≡ cursor_at l.claims 0 l.cursor.index;
  within : l.cursor.index ≤ length (items l.claims 0);
  few : l.count ≤ l.cursor.index;
  numbered : AreNumbered 0 (take l.count l.room);
  copied : map meant (take l.count l.room) ≡ wishes (take l.cursor.index (requests_of l.claims));
}

abbrev pub decreases-loop-claim : goal.decreases-loop-claim
decreases-loop-claim l = length (items l.claims 0) - l.cursor.index
