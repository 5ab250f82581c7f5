use Rattle.std.proofs.Common.{◌≡◌, ◌+◌, ◌++◌, take}
use Rattle.fl_history.proofs.chunks.ChunkedVec.extend_from_slice.Given as goal

abbrev pub invariant-loop-item : goal.invariant-loop-item
invariant-loop-item g l = record {
  items : l.self.items ≡ l.fn.self.items ++ take l.item-index l.more;
  room : l.self.room + l.item-index ≡ l.fn.self.room;
}
