use Rattle.std.proofs.Common.{◌≡◌, ◌≤◌, ◌+◌, ◌++◌, length, take}
use Rattle.fl_counter.specs.Answered.{step_lines}
use Rattle.fl_workers_tests.proofs.tests.tally.append.Given as goal

-- the order and the replies so far are there, and there is room for the rest
abbrev pub invariant-loop-told : goal.invariant-loop-told
invariant-loop-told l = record {
  items : l.lines.items ≡ l.fn.lines.items ++ step_lines l.worker l.order (take l.told-index l.tolds);
  room : length l.tolds ≤ l.lines.room + l.told-index;
}
