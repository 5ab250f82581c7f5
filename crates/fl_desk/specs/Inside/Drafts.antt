-- A head that is told part by part.
use Rattle.std.specs.Prelude.{List, [], ◌∷◌, ◌++◌, map}
use Rattle.std.specs.List.{fold}
use Rattle.fl_history.specs.declared.history.Line.{Line}
use Rattle.fl_history.specs.declared.history.Line.TheVariants as line
use Rattle.fl_order.specs.declared.state_part.StateLine.TheVariants as state
use Rattle.fl_order.specs.declared.state_part.StatePart.{StatePart}

-- the line of a part
abbrev pub part_line : StatePart → Line
part_line part = line.State (state.Part part)

-- lines, with the parts at their end beside the others
pub record Draft : Type 0 where
  pub front : List Line
  pub parts : List StatePart

-- one line more
abbrev pub drafted : Draft → Line → Draft
drafted d (line.State (state.Part part)) = record { front = d.front; parts = d.parts ++ part ∷ [] }
drafted d other = record { front = (d.front ++ map part_line d.parts) ++ other ∷ []; parts = [] }

-- the parts at the end of lines, beside the others
abbrev pub draft_of : List Line → Draft
draft_of lines = fold drafted (record { front = []; parts = [] }) lines
