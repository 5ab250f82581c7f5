-- What a judge says of a history, under the rules by which requests wait.
use Rattle.std.specs.Prelude.{◌≡◌, ℕ, ◌+◌, ◌-◌, ◌≤◌, List, ◌++◌, length, take}
use Rattle.fl_desk.specs.Heads.{begun_lines}
use Rattle.fl_desk.specs.Legal.{IsLegal}
use Rattle.fl_judge.specs.declared.verdict.Verdict.{Verdict}
use Rattle.fl_judge.specs.declared.verdict.Verdict.TheVariants.{Legal, Differs}
use Rattle.fl_history.specs.declared.history.Line.{Line}
use Rattle.fl_order.specs.declared.state_part.Head.{Head}
use Rattle.fl_order.specs.declared.state_part.StatePart.{StatePart}
use Rattle.fl_waiting.specs.declared.rules.Rules.{Rules}

-- some legal history begins with these lines
pub record IsBeginning (rules : Rules) (lines : List Line) : Type 0 where
  pub rest : List Line
  pub legal : IsLegal rules (lines ++ rest)

-- the lines are a head so far, whose end is missing
pub record IsInsideHead (lines : List Line) : Type 0 where
  pub head : Head
  pub parts : List StatePart
  pub begun : lines ≡ begun_lines head parts

-- The history isn't legal. Line n, counted from 1, is the first that breaks the rules: the lines before it are a prefix
-- of a legal history, and no more are. It is the line after the last one if only replies are missing, or the end of a
-- head.
pub record DiffersAt (rules : Rules) (lines : List Line) (n : ℕ) : Type 0 where
  pub illegal : IsLegal rules lines → ⊥
  pub from : 1 ≤ n
  pub upto : n ≤ length lines + 1
  pub before : IsBeginning rules (take (n - 1) lines)
  pub no_more : n ≤ length lines → IsBeginning rules (take n lines) → ⊥

-- what a verdict says of a history
abbrev pub IsVerdict : Rules → List Line → Verdict → Type 0
IsVerdict rules lines Legal = IsLegal rules lines
IsVerdict rules lines (Differs n) = DiffersAt rules lines n
