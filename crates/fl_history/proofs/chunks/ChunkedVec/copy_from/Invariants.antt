use Rattle.std.proofs.Common.{◌≡◌, length, take, drop}
use Rattle.fl_history.proofs.chunks.ChunkedVec.copy_from.Given as goal

abbrev pub invariant-loop-i : goal.invariant-loop-i
invariant-loop-i g l = record {
  long : length l.out ≡ length l.fn.out;
  copied : take l.i l.out ≡ take l.i (drop l.start l.self.items);
}
