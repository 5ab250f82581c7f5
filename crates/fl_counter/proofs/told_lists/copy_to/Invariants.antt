use Rattle.std.proofs.Common.{◌≡◌, ◌++◌, take, vec_capacity}
use Rattle.fl_counter.proofs.told_lists.copy_to.Given as goal

-- the replies so far are there, and the room is the same
abbrev pub invariant-loop-told : goal.invariant-loop-told
invariant-loop-told l = record {
  items : l.tolds.items ≡ l.fn.tolds.items ++ take l.told-index l.list;
  room : vec_capacity l.tolds ≡ vec_capacity l.fn.tolds;
}
