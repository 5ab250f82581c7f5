use Rattle.std.proofs.Common.{◌≡◌, take}
use Rattle.fl_desk.specs.Heads.{begun_lines}
use Rattle.lockd_resume.proofs.other_rules.first_misfit.Given as goal

-- the judge heard the head with the parts so far
abbrev pub invariant-loop-part : goal.invariant-loop-part
invariant-loop-part l =
    (l.judge.rules ≡ l.fn.rules) × (l.judge.lines ≡ begun_lines l.head (take l.part-index l.parts))
