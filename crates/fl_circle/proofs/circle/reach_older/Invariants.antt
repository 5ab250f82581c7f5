use Rattle.std.proofs.Common.{◌≡◌, length, take}
use Rattle.std.specs.List.{list_any}
use Rattle.fl_marks.specs.Conflict.{AreFound}
use Rattle.fl_circle.specs.Inside.Searching.{precedes_by}
use Rattle.fl_circle.proofs.circle.reach_older.Given as goal

abbrev pub invariant-loop-i : goal.invariant-loop-i
invariant-loop-i l = record {
  wide : length l.reached ≡ length l.owners;
  found : AreFound (λ q. list_any (precedes_by l.request q) (take l.i l.wanted)) l.owners l.initial.reached l.reached;
}
