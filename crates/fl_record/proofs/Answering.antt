-- What histories answer to each order of a worker.
use Rattle.std.proofs.Common.{◌≡◌, ℕ, ◌==◌, true, List, [], ◌∷◌, ◌++◌, map, refl, sym, ap, ◌∙◌, arith, append_assoc}
use Rattle.std.proofs.lemmas.Bool.Decides.{nat_tests}
use Rattle.std.specs.Prelude.{if◌then◌else◌}
use mathlib.Core.List.{IsPrefix}
use Rattle.fl_record.proofs.Histories.{history_goes_on}
use Rattle.fl_record.specs.Asks.{lines_from, history_of, present_after}
use Rattle.fl_record.specs.Seats.{Place}
use Rattle.fl_record.specs.Shown.{IsHandedIn}
use Rattle.fl_core.specs.State.{Snapshot}
use Rattle.fl_counter.specs.Answered.{Answered, IsAnsweredLast, answered, answered_by, first_tolds, step_lines}
use Rattle.fl_history.specs.declared.history.Line.{Line}
use Rattle.fl_history.specs.declared.history.Line.TheVariants as line
use Rattle.fl_order.specs.declared.order.Order.{Order}
use Rattle.fl_order.specs.declared.told.Told.{Told}
use Rattle.fl_log.specs.Asked.{Ask}
use Rattle.fl_waiting.specs.declared.rules.Rules.{Rules}

-- ---- lines that begin with an order, or none, add to no replies before them

abbrev BeginsAnew : List Line → Type 0
BeginsAnew lines = first_tolds lines ≡ []

first_same : (xs ys : List Line) → BeginsAnew ys → first_tolds (xs ++ ys) ≡ first_tolds xs
first_same [] ys anew = anew
first_same (line.Told told ∷ xs) ys anew = ap (λ l. told ∷ l) (first_same xs ys anew)
first_same (line.Asked worker order ∷ xs) ys anew = refl
first_same (line.State state ∷ xs) ys anew = refl

-- the order, with these replies, if it is of the worker
abbrev answered_to : ℕ → ℕ → Order → List Told → List Answered
answered_to worker asker order tolds = if asker == worker then answered order tolds ∷ [] else []

answered_more : (worker : ℕ) (xs ys : List Line) → BeginsAnew ys
    → answered_by worker (xs ++ ys) ≡ answered_by worker xs ++ answered_by worker ys
answered_more worker [] ys anew = refl
answered_more worker (line.Told told ∷ xs) ys anew = answered_more worker xs ys anew
answered_more worker (line.State state ∷ xs) ys anew = answered_more worker xs ys anew
answered_more worker (line.Asked asker order ∷ xs) ys anew =
    (λ i. answered_to worker asker order (first_same xs ys anew i) ++ answered_more worker xs ys anew i)
    ∙ sym (append_assoc (answered_to worker asker order (first_tolds xs)) (answered_by worker xs) (answered_by worker ys))

-- ---- one order more

tolds_first : (tolds : List Told) → first_tolds (map (λ told. line.Told told) tolds) ≡ tolds
tolds_first [] = refl
tolds_first (t ∷ ts) = ap (λ l. t ∷ l) (tolds_first ts)

no_order_told : (worker : ℕ) (tolds : List Told) → answered_by worker (map (λ told. line.Told told) tolds) ≡ []
no_order_told worker [] = refl
no_order_told worker (t ∷ ts) = no_order_told worker ts

same_number : (n : ℕ) → (n == n) ≡ true
same_number n = grind (arith, nat_tests)

-- an order of the worker is answered last
pub answered_last : (worker : ℕ) (lines : List Line) (order : Order) (tolds : List Told)
    → answered_by worker (lines ++ step_lines worker order tolds) ≡ answered_by worker lines ++ answered order tolds ∷ []
answered_last worker lines order tolds =
    answered_more worker lines (step_lines worker order tolds) refl
    ∙ (λ i. answered_by worker lines ++ (answered_to worker worker order (tolds_first tolds i) ++ no_order_told worker tolds i))
    ∙ (λ i. answered_by worker lines ++ ((if same_number worker i then answered order tolds ∷ [] else []) ++ []))

-- an order that was handed in at a seat is answered behind all that was handed in there
pub handed_in_last : (rules : Rules) (old new : Place) (order : Order) (tolds : List Told) → new.worker ≡ old.worker
    → IsHandedIn rules old order tolds new
    → IsAnsweredLast (answered_by old.worker old.handed) order tolds (answered_by new.worker new.handed)
handed_in_last rules old new order tolds same one = record {
  others = answered_by old.worker one.before;
  had = one.answered;
  is = (λ i. answered_by (same i) (one.handed i)) ∙ answered_last old.worker one.before order tolds;
}

-- ---- longer histories

asks_begin_anew : (p : Snapshot) (asks : List Ask) → BeginsAnew (lines_from p asks)
asks_begin_anew p [] = refl
asks_begin_anew p (ask ∷ asks) = refl

-- what a beginning of the asks answers to a worker, all of them answer first
pub answered_begins : (rules : Rules) (worker : ℕ) (xs ys : List Ask) → IsPrefix xs ys
    → IsPrefix (answered_by worker (history_of rules xs)) (answered_by worker (history_of rules ys))
answered_begins rules worker xs ys p =
    let rest = lines_from (present_after rules xs) p.0 in (
      answered_by worker rest,
      sym (answered_more worker (history_of rules xs) rest (asks_begin_anew (present_after rules xs) p.0))
          ∙ ap (answered_by worker) (history_goes_on rules xs ys p),
    )
