-- What workers with seats at one record know of its one history.
use Rattle.std.specs.Prelude.{◌≡◌, ◌+◌, ◌≤◌, Result, List, [], ◌∷◌, ◌++◌, length}
use mathlib.Core.List.{IsPrefix}
use Rattle.fl_record.specs.Seats.{Place}
use Rattle.fl_counter.specs.Answered.{answered_by, step_lines}
use Rattle.fl_desk.specs.Answered.{IsAnsweredAfter}
use Rattle.fl_desk.specs.Legal.{IsLegal}
use Rattle.fl_history.specs.declared.history.Line.{Line}
use Rattle.fl_order.specs.declared.errno.Errno.{Errno}
use Rattle.fl_order.specs.declared.order.Order.{Order}
use Rattle.fl_order.specs.declared.told.Answer.{Answer}
use Rattle.fl_order.specs.declared.told.Told.{Told}
use Rattle.fl_waiting.specs.declared.rules.Rules.{Rules}

-- The order stands with these replies at the end of a history that is legal under these rules, behind all that the
-- worker had handed in, each order with all its replies, and was shown before. One order more was handed in, and the
-- history has as many of this worker at least.
pub record IsHandedIn (rules : Rules) (old : Place) (order : Order) (tolds : List Told) (new : Place) : Type 0 where
  pub before : List Line
  pub handed : new.handed ≡ before ++ step_lines old.worker order tolds
  pub legal : IsLegal rules new.handed
  pub had : IsPrefix old.handed before
  pub answered : IsPrefix (answered_by old.worker old.handed) (answered_by old.worker before)
  pub saw : IsPrefix old.seen before
  pub seen : new.seen ≡ old.seen
  pub count : new.count ≡ old.count + 1
  pub recorded : new.count ≤ length (answered_by old.worker new.handed)

-- These orders were handed in one after another at one worker's place, each with one of these lists of replies. If
-- there are fewer lists than orders, the orders without one weren't handed in.
abbrev pub AreHandedIn : Rules → Place → List Order → List (List Told) → Place → Type 0
AreHandedIn rules old orders [] new = new ≡ old
AreHandedIn rules old [] (tolds ∷ lists) new = ⊥
AreHandedIn rules old (order ∷ orders) (tolds ∷ lists) new =
    (between : Place) × (between.worker ≡ old.worker) × IsHandedIn rules old order tolds between
    × AreHandedIn rules between orders lists new

-- it is the same worker's, who handed in the same, and as much is stored
pub record KeepsHanded (old new : Place) : Type 0 where
  pub worker : new.worker ≡ old.worker
  pub count : new.count ≡ old.count
  pub handed : new.handed ≡ old.handed
  pub stored : new.stored ≡ old.stored

-- A history that is legal under these rules was shown, which begins with all that the worker had handed in, each order
-- with all its replies, and was shown before. The result is what the order is answered after it.
pub record IsShown (rules : Rules) (old : Place) (order : Order) (result : Result Answer Errno)
    (new : Place) : Type 0 where
  pub had : IsPrefix old.handed new.seen
  pub answered : IsPrefix (answered_by old.worker old.handed) (answered_by old.worker new.seen)
  pub saw : IsPrefix old.seen new.seen
  pub answer : IsAnsweredAfter rules new.seen order result
