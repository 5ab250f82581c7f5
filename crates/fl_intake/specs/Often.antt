-- When two lists have the same orders, each as often, in any order of time.
use Rattle.std.specs.Prelude.{◌≡◌, ℕ, List, sum_by}
use Rattle.fl_order.specs.declared.order.Order.{Order}

-- a number for each order, as 1 for one order and 0 for all others
abbrev pub Weight : Type 0
Weight = Order → ℕ

-- Whatever weight orders are given, both lists weigh as much. So each order stands in both as often: a weight of 1 for
-- it and of 0 for others counts it.
abbrev pub AreAsOften : List Order → List Order → Type 0
AreAsOften xs ys = (weight : Weight) → sum_by weight xs ≡ sum_by weight ys
