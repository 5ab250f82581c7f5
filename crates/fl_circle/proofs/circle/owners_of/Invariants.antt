use Rattle.std.proofs.Common.{◌≡◌, length, take}
use Rattle.fl_circle.specs.Inside.Searching.{owners_of}
use Rattle.fl_circle.proofs.circle.owners_of.Given as goal

abbrev pub invariant-loop-i : goal.invariant-loop-i
invariant-loop-i g l = record {
  long : length l.owners ≡ g.row.N;
  copied : take l.i l.owners ≡ owners_of (take l.i l.wanted);
}
