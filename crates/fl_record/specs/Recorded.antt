-- What contracts see of a record.
use Rattle.std.specs.Prelude.{List, Option}
use Rattle.fl_history.specs.declared.history.Line.{Line}
use Rattle.fl_log.specs.Asked.{Ask}

-- the asks that were handed in; those that led to what readers find, or none while there are no copies; and the lines
-- that the journal has stored
pub record Recorded : Type 0 where
  pub asks : List Ask
  pub shown : Option (List Ask)
  pub stored : List Line
