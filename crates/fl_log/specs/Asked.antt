-- What a log of orders has.
use Rattle.std.specs.Prelude.{ℕ}
use Rattle.fl_order.specs.declared.order.Op.TheVariants.{Getattr}
use Rattle.fl_order.specs.declared.order.Order.{Order}

-- an order, and the worker who handed it in
pub record Ask : Type 0 where
  pub worker : ℕ
  pub order : Order

-- this order, handed in by this worker
abbrev pub ask_of : ℕ → Order → Ask
ask_of worker order = record { worker = worker; order = order }

-- what a value of the type `Ask` would stand for; none is made
abbrev pub no_ask : Ask
no_ask = ask_of 0 (record { unique = 0; node = 0; uid = 0; gid = 0; pid = 0; op = Getattr })
