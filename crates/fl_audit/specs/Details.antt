-- What is told of the lines of a trace, beside what is found.
use Rattle.std.specs.Prelude.{◌≡◌, ℕ, List, length}
use Rattle.fl_desk.specs.Legal.{orders_asked}
use Rattle.fl_audit.specs.declared.details.Details.{Details}
use Rattle.fl_history.specs.declared.history.Line.{Line}
use Rattle.fl_judge.specs.Difference.{IsDifferenceOf}
use Rattle.fl_trace.specs.Text.{text_of, Fits}
use Rattle.fl_waiting.specs.declared.rules.Rules.{Rules}

-- how many lines there are, how many of them are orders, and where they break the rules
pub record AreDetailsOf (rules : Rules) (lines : List Line) (details : Details) : Type 0 where
  pub lines_are : details.lines ≡ length lines
  pub orders_are : details.orders ≡ orders_asked lines
  pub difference_is : IsDifferenceOf rules lines details.difference

-- a text is that of lines, of which that is told
pub record AreDetailsIn (rules : Rules) (trace : List ℕ) (details : Details) : Type 0 where
  pub lines : List Line
  pub spelled : trace ≡ text_of lines
  pub fits : Fits lines
  pub are : AreDetailsOf rules lines details
