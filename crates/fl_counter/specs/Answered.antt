-- What a history answers to each order.
use Rattle.std.specs.Prelude.{◌≡◌, ℕ, ◌==◌, List, [], ◌∷◌, ◌++◌, map, if◌then◌else◌}
use mathlib.Core.List.{IsPrefix}
use Rattle.fl_history.specs.declared.history.Line.{Line}
use Rattle.fl_history.specs.declared.history.Line.TheVariants as line
use Rattle.fl_order.specs.declared.order.Order.{Order}
use Rattle.fl_order.specs.declared.told.Told.{Told}

-- an order and its replies, as lines
abbrev pub step_lines : ℕ → Order → List Told → List Line
step_lines worker order replies = line.Asked worker order ∷ map (λ told. line.Told told) replies

-- an order, and the replies that it gave: its own, and those of requests that it let settle
pub record Answered : Type 0 where
  pub order : Order
  pub tolds : List Told

-- this order, and these replies
abbrev pub answered : Order → List Told → Answered
answered order tolds = record { order = order; tolds = tolds }

-- the replies before the next order
abbrev pub first_tolds : List Line → List Told
first_tolds [] = []
first_tolds (line.Told told ∷ lines) = told ∷ first_tolds lines
first_tolds (line.Asked worker order ∷ lines) = []
first_tolds (line.State state ∷ lines) = []

-- the orders that the lines ask for this worker, each with the replies that stand behind it
abbrev pub answered_by : ℕ → List Line → List Answered
answered_by worker [] = []
answered_by worker (line.Asked asker order ∷ lines) =
    (if asker == worker then answered order (first_tolds lines) ∷ [] else []) ++ answered_by worker lines
answered_by worker (line.Told told ∷ lines) = answered_by worker lines
answered_by worker (line.State state ∷ lines) = answered_by worker lines

-- an order is answered behind all that was answered before
pub record IsAnsweredLast (before : List Answered) (order : Order) (tolds : List Told) (now : List Answered)
    : Type 0 where
  pub others : List Answered
  pub had : IsPrefix before others
  pub is : now ≡ others ++ answered order tolds ∷ []

-- These orders are answered one after another behind all that was answered before, each with one of these lists of
-- replies. If there are fewer lists than orders, the orders without one aren't answered.
abbrev pub AreAnsweredLast : List Answered → List Order → List (List Told) → List Answered → Type 0
AreAnsweredLast before orders [] now = now ≡ before
AreAnsweredLast before [] (tolds ∷ lists) now = ⊥
AreAnsweredLast before (order ∷ orders) (tolds ∷ lists) now =
    (between : List Answered) × IsAnsweredLast before order tolds between × AreAnsweredLast between orders lists now

-- These orders of a worker stand with these lists of replies in a history, one after another, the first behind `front`:
-- `now` ends with the last of them. If there are fewer lists than orders, the orders without one don't stand there.
abbrev pub AreBehind : ℕ → List Line → List Order → List (List Told) → List Line → Type 0
AreBehind worker front orders [] now = now ≡ front
AreBehind worker front [] (tolds ∷ lists) now = ⊥
AreBehind worker front (order ∷ orders) (tolds ∷ lists) now =
    (before : List Line) × IsPrefix front before
    × AreBehind worker (before ++ step_lines worker order tolds) orders lists now
