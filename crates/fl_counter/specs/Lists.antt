-- The replies to a batch of orders, a list for each.
use Rattle.std.specs.Prelude.{ℕ, List}
use Rattle.fl_order.specs.declared.told.Told.{Told}

-- The lists; for how many replies there is room in all, and for how many more; and for how many lists.
pub record Lists : Type 0 where
  pub lists : List (List Told)
  pub room : ℕ
  pub free : ℕ
  pub places : ℕ
