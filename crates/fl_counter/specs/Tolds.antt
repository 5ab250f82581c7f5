-- What contracts see of a list of replies.
use Rattle.std.specs.Prelude.{ℕ, ◌+◌, ◌≤◌, List, [], ◌∷◌, Option, None, Some, Result}
use Rattle.fl_order.specs.declared.errno.Errno.{Errno}
use Rattle.fl_order.specs.declared.order.Order.{Order}
use Rattle.fl_order.specs.declared.told.Answer.{Answer}
use Rattle.fl_order.specs.declared.told.Told.{Told}
use Rattle.fl_waiting.specs.declared.rules.Rules.{Rules}

-- the replies, in their order, and for how many there is room
pub record Replies : Type 0 where
  pub told : List Told
  pub room : ℕ

-- there is room for all that one order can give under these rules: its own reply, and one to each parked request
abbrev pub HasRoom : Rules → Replies → Type 0
HasRoom rules tolds = rules.parked + 1 ≤ tolds.room

-- the own reply of an order, if it has one, as a list
abbrev pub own_replies : Order → Option (Result Answer Errno) → List Told
own_replies order None = []
own_replies order (Some result) = record { unique = order.unique; result = result } ∷ []
