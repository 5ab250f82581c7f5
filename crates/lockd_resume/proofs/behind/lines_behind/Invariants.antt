use Rattle.std.proofs.Common.{◌≡◌, ◌≤◌, ◌+◌, ◌++◌, length, min, take}
use Rattle.fl_judge.specs.Present.{told_lines}
use Rattle.lockd_resume.proofs.behind.lines_behind.Given as goal

-- the replies so far are behind the lines, and there is room for the others
abbrev pub invariant-loop-told : goal.invariant-loop-told
invariant-loop-told g l = record {
  lines : l.journal.lines ≡ l.fn.journal.lines ++ told_lines (take l.told-index l.missing);
  piece : l.journal.here.lines ≡ l.fn.journal.here.lines ++ told_lines (take l.told-index l.missing);
  room : length l.missing ≤ min 2048 l.journal.here.room + l.told-index;
}
