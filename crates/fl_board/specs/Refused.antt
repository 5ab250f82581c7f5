-- Why a board refuses, if it isn't for memory.
use Rattle.std.specs.Prelude.{◌⊎◌, All, List}
use mathlib.Core.List.{IsPrefix}
use Rattle.fl_desk.specs.Legal.{IsLegal}
use Rattle.fl_history.specs.declared.history.Line.{Line}
use Rattle.fl_record.specs.Seats.{AreApart, Place}
use Rattle.fl_waiting.specs.declared.rules.Rules.{Rules}

-- the history begins with all that the worker handed in and was shown, and with what counts as stored for it
pub record BeginsWith (lines : List Line) (place : Place) : Type 0 where
  pub had : IsPrefix place.handed lines
  pub saw : IsPrefix place.seen lines
  pub stored : IsPrefix place.stored lines

-- A history that is legal under these rules doesn't begin with all that one of these workers handed in and was shown,
-- or with what counts as stored for it.
pub record FallsShort (rules : Rules) (places : List Place) : Type 0 where
  pub lines : List Line
  pub legal : IsLegal rules lines
  pub short : All (BeginsWith lines) places → ⊥

-- A history that is legal under these rules falls short of what these workers handed in and were shown, or of what
-- counts as stored for them; or two places are of one worker.
abbrev pub CantClose : Rules → List Place → Type 0
CantClose rules places = FallsShort rules places ⊎ (AreApart places → ⊥)
