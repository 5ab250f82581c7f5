-- What workers at one board know of its one history: the longer of what each has, when they meet, and in the end.
use Rattle.std.specs.Prelude.{◌≡◌, nat_le, List, length, if◌then◌else◌}
use mathlib.Core.List.{IsPrefix}
use Rattle.fl_counter.specs.Answered.{answered_by}
use Rattle.fl_desk.specs.Legal.{IsLegal}
use Rattle.fl_history.specs.declared.history.Line.{Line}
use Rattle.fl_record.specs.Seats.{Place}
use Rattle.fl_waiting.specs.declared.rules.Rules.{Rules}

-- the longer of two histories: that up to the last order that was handed in, and the longest that was shown
abbrev pub front_of : Place → List Line
front_of place = if nat_le (length place.handed) (length place.seen) then place.seen else place.handed

-- Two workers were shown one history that is legal under these rules, which begins with all that both had handed in
-- and were shown before.
pub record HaveMet (rules : Rules) (one other one_now other_now : Place) : Type 0 where
  pub legal : IsLegal rules one_now.seen
  pub same : other_now.seen ≡ one_now.seen
  pub one_had : IsPrefix one.handed one_now.seen
  pub one_saw : IsPrefix one.seen one_now.seen
  pub other_had : IsPrefix other.handed one_now.seen
  pub other_saw : IsPrefix other.seen one_now.seen

-- The history begins with all that the worker handed in, each order with all its replies, and was shown. Its orders of
-- this worker are those that were handed in, as many.
pub record HasAllOf (lines : List Line) (place : Place) : Type 0 where
  pub had : IsPrefix place.handed lines
  pub answered : IsPrefix (answered_by place.worker place.handed) (answered_by place.worker lines)
  pub saw : IsPrefix place.seen lines
  pub count : length (answered_by place.worker lines) ≡ place.count
