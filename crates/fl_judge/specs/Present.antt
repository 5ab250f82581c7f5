-- What is there after lines that a history may begin with.
use Rattle.std.specs.Prelude.{◌≡◌, List, ◌++◌, map}
use Rattle.fl_core.specs.State.{Snapshot}
use Rattle.fl_desk.specs.Leading.{LeadsTo}
use Rattle.fl_history.specs.declared.history.Line.{Line}
use Rattle.fl_history.specs.declared.history.Line.TheVariants as line
use Rattle.fl_judge.specs.Verdicts.{IsBeginning, IsInsideHead}
use Rattle.fl_order.specs.declared.told.Told.{Told}
use Rattle.fl_waiting.specs.declared.rules.Rules.{Rules}

-- replies, as lines
abbrev pub told_lines : List Told → List Line
told_lines tolds = map (λ told. line.Told told) tolds

-- Something is there after the lines: some history that is legal under these rules begins with them, and they don't end
-- inside a head.
pub record HasPresent (rules : Rules) (lines : List Line) : Type 0 where
  pub begins : IsBeginning rules lines
  pub outside : IsInsideHead lines → ⊥

-- This is there after the lines and the replies that are missing at their end, which make them a history that is
-- legal under these rules.
pub record IsPresent (rules : Rules) (lines : List Line) (p : Snapshot) : Type 0 where
  pub missing : List Told
  pub leads : LeadsTo (lines ++ told_lines missing) p
  pub under : p.rules ≡ rules
