-- Where lines break the rules, and what these want there.
use Rattle.std.specs.Prelude.{◌≡◌, ◌⊎◌, ℕ, ◌-◌, Option, Some, None, List, ◌∷◌, ◌++◌, take}
use Rattle.std.specs.List.{slice_get}
use Rattle.fl_desk.specs.Legal.{IsLegal}
use Rattle.fl_judge.specs.Verdicts.{DiffersAt, IsInsideHead}
use Rattle.fl_history.specs.declared.history.Line.{Line}
use Rattle.fl_history.specs.declared.history.Line.TheVariants as line
use Rattle.fl_judge.specs.declared.difference.Difference.{Difference}
use Rattle.fl_order.specs.declared.told.Told.{Told}
use Rattle.fl_waiting.specs.declared.rules.Rules.{Rules}

-- The reply that has to come next: each legal history that begins with these lines goes on by it. If none has to, the
-- lines are one, or end inside a head.
abbrev pub IsDueBehind : Rules → List Line → Option Told → Type 0
IsDueBehind rules lines None = IsLegal rules lines ⊎ IsInsideHead lines
IsDueBehind rules lines (Some told) =
    (rest : List Line) → IsLegal rules (lines ++ rest) → (more : List Line) × (rest ≡ line.Told told ∷ more)

-- the lines break the rules there, this one of them stands there, if one does, and this reply has to
pub record IsDifferenceAt (rules : Rules) (lines : List Line) (d : Difference) : Type 0 where
  pub differs : DiffersAt rules lines d.number
  pub found : d.found ≡ slice_get lines (d.number - 1)
  pub due : IsDueBehind rules (take (d.number - 1) lines) d.due

-- where the lines break the rules, if they do
abbrev pub IsDifferenceOf : Rules → List Line → Option Difference → Type 0
IsDifferenceOf rules lines None = IsLegal rules lines
IsDifferenceOf rules lines (Some d) = IsDifferenceAt rules lines d
