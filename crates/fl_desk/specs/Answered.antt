-- What is answered after a history to an order that only reads.
use Rattle.std.specs.Prelude.{◌≡◌, List, Some, Result}
use Rattle.fl_core.specs.Step.{replies_in}
use Rattle.fl_counter.specs.Tolds.{own_replies}
use Rattle.fl_desk.specs.Legal.{IsLegal}
use Rattle.fl_desk.specs.Replay.{state_after}
use Rattle.fl_history.specs.declared.history.Line.{Line}
use Rattle.fl_order.specs.declared.errno.Errno.{Errno}
use Rattle.fl_order.specs.declared.order.Order.{Order}
use Rattle.fl_order.specs.declared.told.Answer.{Answer}
use Rattle.fl_waiting.specs.declared.rules.Rules.{Rules}

-- after a history that is legal under these rules, this is what an order that only reads is answered
pub record IsAnsweredAfter (rules : Rules) (lines : List Line) (order : Order) (result : Result Answer Errno)
    : Type 0 where
  pub legal : IsLegal rules lines
  pub answer : replies_in (state_after rules lines) order ≡ own_replies order (Some result)
