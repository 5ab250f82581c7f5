-- How many orders a history has, and of each worker.
use Rattle.std.proofs.Common.{◌≡◌, ℕ, ◌+◌, ◌≤◌, List, [], ◌∷◌, ◌++◌, cond, length, length-append, map, refl, sym, ap, ◌∙◌, arith}
use Rattle.std.proofs.lemmas.List.Sums.{sum_by-append, sum_by-cons}
use mathlib.Core.List.{IsPrefix}
use Rattle.fl_counter.specs.Answered.{answered, answered_by, step_lines}
use Rattle.fl_desk.specs.Legal.{is_asked, orders_asked}
use Rattle.fl_history.specs.declared.history.Line.{Line}
use Rattle.fl_history.specs.declared.history.Line.TheVariants as line
use Rattle.fl_order.specs.declared.order.Order.{Order}
use Rattle.fl_order.specs.declared.told.Told.{Told}
use Rattle.fl_record.proofs.Answering.{answered_last}

-- how many orders of the worker the lines have
abbrev pub orders_by : ℕ → List Line → ℕ
orders_by worker lines = length (answered_by worker lines)

-- a list has as many items as its beginning at least
pub no_longer : {X : Type 0} (xs ys : List X) → IsPrefix xs ys → length xs ≤ length ys
no_longer xs ys p = omega (arith, sym (ap length p.1) ∙ length-append xs p.0)

-- an order of the worker is one more
pub one_more_by : (worker : ℕ) (lines : List Line) (order : Order) (tolds : List Told)
    → orders_by worker (lines ++ step_lines worker order tolds) ≡ orders_by worker lines + 1
one_more_by worker lines order tolds =
    ap length (answered_last worker lines order tolds) ∙ length-append (answered_by worker lines) (answered order tolds ∷ [])

-- replies ask nothing
told_asks_nothing : (tolds : List Told) → orders_asked (map (λ told. line.Told told) tolds) ≡ 0
told_asks_nothing [] = refl
told_asks_nothing (t ∷ ts) =
    sum_by-cons (λ l. cond (is_asked l) 1 0) (line.Told t) (map (λ told. line.Told told) ts)
    ∙ ap (λ n. 0 + n) (told_asks_nothing ts)

-- an order and its replies ask one
pub step_asks_one_order : (lines : List Line) (worker : ℕ) (order : Order) (tolds : List Told) →
    orders_asked (lines ++ step_lines worker order tolds) ≡ orders_asked lines + 1
step_asks_one_order lines worker order tolds =
    let told = map (λ told. line.Told told) tolds in
    sum_by-append (λ l. cond (is_asked l) 1 0) lines (step_lines worker order tolds)
    ∙ ap (λ n. orders_asked lines + n)
    (sum_by-cons (λ l. cond (is_asked l) 1 0) (line.Asked worker order) told ∙ ap (λ n. 1 + n) (told_asks_nothing tolds))
