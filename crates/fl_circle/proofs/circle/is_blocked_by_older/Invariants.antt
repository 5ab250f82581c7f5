use Rattle.std.proofs.Common.{◌≡◌, false, take}
use Rattle.std.specs.List.{list_any}
use Rattle.fl_circle.specs.Inside.Searching.{precedes_by}
use Rattle.fl_circle.proofs.circle.is_blocked_by_older.Given as goal

abbrev pub invariant-loop-older : goal.invariant-loop-older
invariant-loop-older l = list_any (precedes_by l.request l.owner) (take l.older-index l.wanted) ≡ false
