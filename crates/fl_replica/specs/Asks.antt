-- What is there after asks, one after another, and an order that leads on.
use Rattle.std.specs.Prelude.{List, Option}
use Rattle.std.specs.List.{fold}
use Rattle.fl_log.specs.Asked.{Ask}
use Rattle.fl_order.specs.declared.order.Order.{Order}

-- what is there after these asks: `next` says what is there after an order, and `opening` what is there at first
abbrev pub present_after : {S : Type 0} → (S → Order → S) → S → List Ask → S
present_after next opening asks = fold (λ present ask. next present ask.order) opening asks

-- an order, with the asks before it and with it
pub record Extension : Type 0 where
  pub order : Order
  pub before : List Ask
  pub after : List Ask

-- the asks that were added to a writer, and those that led to what readers find, or none while there are no copies
pub record Publication : Type 0 where
  pub asks : List Ask
  pub shown : Option (List Ask)
