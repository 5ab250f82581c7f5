use Rattle.std.proofs.Common.{◌≡◌, ◌≤◌, ◌+◌, ◌++◌, length, take}
use mathlib.Core.List.{IsPrefix}
use Rattle.fl_counter.specs.Answered.{step_lines}
use Rattle.fl_desk.proofs.desk.append.Given as goal

-- the order and the replies so far are there, and there is room for the rest
abbrev pub invariant-loop-told : goal.invariant-loop-told
invariant-loop-told g l = record {
  lines : g.J.Journal.lines l.journal ≡ g.J.Journal.lines l.fn.journal ++ step_lines l.worker l.order (take l.told-index l.tolds);
  piece : g.J.Journal.piece l.journal ≡ g.J.Journal.piece l.fn.journal ++ step_lines l.worker l.order (take l.told-index l.tolds);
  stored : IsPrefix (g.J.Journal.stored l.fn.journal) (g.J.Journal.stored l.journal);
  room : length l.tolds ≤ g.J.Journal.room l.journal + l.told-index;
}
