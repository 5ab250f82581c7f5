-- What the lines of a seat answer to each order.
use Rattle.std.proofs.Common.{◌≡◌, ℕ, ◌<◌, ◌≤◌, ◌==◌, Bool, true, false, true≢false, List, [], ◌∷◌, ◌++◌, map}
use Rattle.std.proofs.Common.{length, get_or, subst, refl, sym, ap, ◌∙◌, arith, append_assoc, append-nil}
use Rattle.std.proofs.lemmas.Bool.Decides.{nat_tests}
use Rattle.std.specs.Prelude.{◌↔◌, if◌then◌else◌}
use mathlib.Core.List.{IsPrefix}
use Rattle.fl_counter.specs.Answered.{Answered, AreAnsweredLast, AreBehind, IsAnsweredLast, answered, answered_by, first_tolds, step_lines}
use Rattle.fl_history.specs.declared.history.Line.{Line}
use Rattle.fl_history.specs.declared.history.Line.TheVariants as line
use Rattle.fl_order.specs.declared.order.Order.{Order}
use Rattle.fl_order.specs.declared.told.Told.{Told}

-- an order has no replies of the next
first_same : (worker : ℕ) (order : Order) (tolds : List Told) (lines : List Line)
    → first_tolds (lines ++ step_lines worker order tolds) ≡ first_tolds lines
first_same worker order tolds [] = refl
first_same worker order tolds (line.Told told ∷ lines) = ap (λ l. told ∷ l) (first_same worker order tolds lines)
first_same worker order tolds (line.Asked asker other ∷ lines) = refl
first_same worker order tolds (line.State state ∷ lines) = refl

first_are : (tolds : List Told) → first_tolds (map (λ told. line.Told told) tolds) ≡ tolds
first_are [] = refl
first_are (told ∷ tolds) = ap (λ l. told ∷ l) (first_are tolds)

none_asked : (worker : ℕ) (tolds : List Told) → answered_by worker (map (λ told. line.Told told) tolds) ≡ []
none_asked worker [] = refl
none_asked worker (told ∷ tolds) = none_asked worker tolds

same_number : (n : ℕ) → (n == n) ≡ true
same_number n = grind (arith, nat_tests)

-- the order, with these replies, if it is of the worker
abbrev answered_to : ℕ → ℕ → Order → List Told → List Answered
answered_to worker asker order tolds = if asker == worker then answered order tolds ∷ [] else []

-- an order behind lines is answered behind them
answered_behind : (worker : ℕ) (order : Order) (tolds : List Told) (lines : List Line)
    → answered_by worker (lines ++ step_lines worker order tolds)
    ≡ answered_by worker lines ++ answered order tolds ∷ []
answered_behind worker order tolds [] =
    (λ i. answered_to worker worker order (first_are tolds i) ++ none_asked worker tolds i)
    ∙ (λ i. (if same_number worker i then answered order tolds ∷ [] else []) ++ [])
answered_behind worker order tolds (line.Told told ∷ lines) = answered_behind worker order tolds lines
answered_behind worker order tolds (line.State state ∷ lines) = answered_behind worker order tolds lines
answered_behind worker order tolds (line.Asked asker other ∷ lines) =
    (λ i. answered_to worker asker other (first_same worker order tolds lines i)
    ++ answered_behind worker order tolds lines i)
    ∙ sym (append_assoc (answered_to worker asker other (first_tolds lines)) (answered_by worker lines)
    (answered order tolds ∷ []))

-- an order behind the lines of a seat is answered last
pub answered_last : (worker : ℕ) (before now : List Line) (order : Order) (tolds : List Told)
    → now ≡ before ++ step_lines worker order tolds
    → IsAnsweredLast (answered_by worker before) order tolds (answered_by worker now)
answered_last worker before now order tolds is = record {
  others = answered_by worker before;
  had = ([], append-nil (answered_by worker before));
  is = ap (answered_by worker) is ∙ answered_behind worker order tolds before;
}

-- lines begin with themselves
pub begin_themselves : (lines : List Line) → IsPrefix lines lines
begin_themselves lines = ([], append-nil lines)

-- one order more is answered last
pub answered_more : (before mid now : List Answered) (orders : List Order) (lists : List (List Told)) (order : Order)
    (tolds : List Told) → AreAnsweredLast before orders lists mid → length lists < length orders
    → order ≡ get_or orders (length lists) order → IsAnsweredLast mid order tolds now
    → AreAnsweredLast before orders (lists ++ tolds ∷ []) now
answered_more before mid now [] [] order tolds same within at last = absurd (omega arith)
answered_more before mid now (first ∷ orders) [] order tolds same within at last =
    let behind = subst (λ l. IsAnsweredLast l order tolds now) same last in
    (now, subst (λ it. IsAnsweredLast before it tolds now) at behind, refl)
answered_more before mid now [] (list ∷ lists) order tolds never within at last = absurd never
answered_more before mid now (first ∷ orders) (list ∷ lists) order tolds taken within at last =
    (taken.0, taken.1, answered_more taken.0 mid now orders lists order tolds taken.2 (omega arith) at last)

-- one order more stands behind the others
pub behind_more : (worker : ℕ) (from mid now : List Line) (orders : List Order) (lists : List (List Told)) (order : Order)
    (tolds : List Told) → AreBehind worker from orders lists mid → length lists < length orders
    → order ≡ get_or orders (length lists) order → now ≡ mid ++ step_lines worker order tolds
    → AreBehind worker from orders (lists ++ tolds ∷ []) now
behind_more worker from mid now [] [] order tolds same within at last = absurd (omega arith)
behind_more worker from mid now (first ∷ orders) [] order tolds same within at last =
    (from, begin_themselves from, last ∙ (λ i. same i ++ step_lines worker (at i) tolds))
behind_more worker from mid now [] (list ∷ lists) order tolds never within at last = absurd never
behind_more worker from mid now (first ∷ orders) (list ∷ lists) order tolds behind within at last = (
  behind.0,
  behind.1,
  behind_more worker (behind.0 ++ step_lines worker first list) mid now orders lists order tolds behind.2 (omega arith)
      at last,
)

-- where there is no room for a list more, there is one already
pub some_taken : (lists : List (List Told)) (free room places : ℕ) (has : Bool) → has ≡ false
    → ((has ≡ true) ↔ ((257 ≤ free) × (length lists < places))) → (lists ≡ [] → free ≡ room) → 257 ≤ room
    → 0 < places → 0 < length lists
some_taken [] free room places has full test all fits some =
    absurd (true≢false (sym (test.1 (omega (arith, all refl), omega arith)) ∙ full))
some_taken (list ∷ lists) free room places has full test all fits some = omega arith
