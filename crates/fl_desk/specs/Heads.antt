-- Heads: lines that tell the state from which a history goes on.
use Rattle.std.specs.Prelude.{◌≡◌, ◌<◌, List, [], ◌∷◌, ◌++◌, map}
use Rattle.fl_core.specs.Restored.{begun, told_part}
use Rattle.fl_core.specs.State.{State}
use Rattle.fl_history.specs.declared.history.Line.{Line}
use Rattle.fl_history.specs.declared.history.Line.TheVariants as line
use Rattle.fl_order.specs.declared.state_part.Head.{Head}
use Rattle.fl_order.specs.declared.state_part.StateLine.{StateLine}
use Rattle.fl_order.specs.declared.state_part.StateLine.TheVariants as state
use Rattle.fl_order.specs.declared.state_part.StatePart.{StatePart}
use Rattle.fl_state.specs.Parts.{part_of}
use Rattle.fl_state.specs.Telling.{AreTold}
use Rattle.fl_waiting.specs.declared.rules.Rules.{Rules}

-- the head names these rules
pub record NamesRules (head : Head) (rules : Rules) : Type 0 where
  pub fair : head.fair ≡ rules.fair
  pub runs : head.runs ≡ rules.runs
  pub parked : head.parked ≡ rules.parked
  pub files : head.files ≡ rules.files
  pub open_files : head.open_files ≡ rules.open_files

-- a head so far: its first line, and these parts
abbrev pub begun_lines : Head → List StatePart → List Line
begun_lines head parts = line.State (state.Head head) ∷ map (λ part. line.State (state.Part part)) parts

-- a whole head
abbrev pub head_lines : Head → List StatePart → List Line
head_lines head parts = begun_lines head parts ++ line.State state.Go ∷ []

-- It names these rules, numbers that weren't given are above those of the root and of no open file, and each part fits
-- what those before it tell.
pub record IsToldBy (rules : Rules) (head : Head) (parts : List StatePart) : Type 0 where
  pub under : NamesRules head rules
  pub node : 1 < head.node
  pub fh : 0 < head.fh
  pub fit : AreTold rules head.node head.fh (map part_of parts)

-- the lines are a head, whose state can be told under these rules
pub record IsHead (rules : Rules) (lines : List Line) : Type 0 where
  pub head : Head
  pub parts : List StatePart
  pub spelled : lines ≡ head_lines head parts
  pub told : IsToldBy rules head parts

-- what a line of a head makes of a state: the first one begins anew, under the rules that are there
abbrev pub with_state : StateLine → State → State
with_state (state.Head head) s = begun s.rules head.node head.fh
with_state (state.Part part) s = told_part (part_of part) s
with_state state.Go s = s
