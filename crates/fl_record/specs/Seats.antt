-- What contracts see of a worker's place at a record.
use Rattle.std.specs.Prelude.{◌≢◌, ◌≤◌, ℕ, List, length}
use Rattle.std.specs.List.{AllPairs}
use mathlib.Core.List.{IsPrefix}
use Rattle.fl_counter.specs.Answered.{answered_by}
use Rattle.fl_history.specs.declared.history.Line.{Line}

-- Whose it is; how many orders were handed in through it; the history up to the last of them with its replies, or
-- nothing before the first; the longest history that the worker was shown; and a beginning of the history whose lines
-- are stored, or need not be before replies leave.
pub record Place : Type 0 where
  pub worker : ℕ
  pub count : ℕ
  pub handed : List Line
  pub seen : List Line
  pub stored : List Line

-- no two are of one worker
abbrev pub AreApart : List Place → Type 0
AreApart places = AllPairs (λ (a b : Place). a.worker ≢ b.worker) places

-- the place, once all that was handed in there is stored
abbrev pub all_stored : Place → Place
all_stored place = record place { stored = place.handed }

-- the lines begin with all that the worker handed in, each order with all its replies, and was shown; and have as many
-- orders of it at least
pub record HasMostOf (lines : List Line) (place : Place) : Type 0 where
  pub had : IsPrefix place.handed lines
  pub answered : IsPrefix (answered_by place.worker place.handed) (answered_by place.worker lines)
  pub saw : IsPrefix place.seen lines
  pub count : place.count ≤ length (answered_by place.worker lines)
