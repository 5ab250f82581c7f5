-- What contracts see of the ends of an intake. The intake itself is seen as its name, a TableId.
use Rattle.std.specs.Prelude.{ℕ, Bool, List, sum_by}
use Rattle.atomic_table.specs.Seated.{TableId}
use Rattle.fl_order.specs.declared.order.Order.{Order}
use Rattle.fl_intake.specs.Often.{Weight}

-- The end that puts: the intake that it is of, how many ends take, the orders that were put through it, the oldest
-- first, and whether it is closed.
pub record PutSide : Type 0 where
  pub of : TableId
  pub takers : ℕ
  pub put : List Order
  pub closed : Bool

-- An end that takes: the intake that it is of, and the orders that were taken through it, the oldest first.
pub record TakeSide : Type 0 where
  pub of : TableId
  pub taken : List Order

-- what was taken through all these ends, weighed
abbrev pub weight_taken : Weight → List TakeSide → ℕ
weight_taken weight ends = sum_by (λ end. sum_by weight end.taken) ends
