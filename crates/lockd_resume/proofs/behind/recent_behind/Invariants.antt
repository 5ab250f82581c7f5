use Rattle.std.proofs.Common.{◌≡◌, ◌++◌, take}
use Rattle.fl_judge.specs.Present.{told_lines}
use Rattle.lockd_resume.proofs.behind.recent_behind.Given as goal

-- the replies so far are behind the lines
abbrev pub invariant-loop-told : goal.invariant-loop-told
invariant-loop-told l = l.recent ≡ l.fn.recent ++ told_lines (take l.told-index l.missing)
