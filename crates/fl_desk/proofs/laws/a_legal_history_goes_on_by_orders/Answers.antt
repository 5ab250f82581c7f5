use Rattle.fl_desk.proofs.Histories.{Steps, rules_stay}
use Rattle.fl_desk.proofs.Orders.{legal_leads, goes_on, asked_legal}
use Rattle.fl_desk.proofs.laws.a_legal_history_goes_on_by_orders.Goals as goal

pub returns : goal.returns
returns c =
    let law = c.a_step_is_what_its_replies_give.ensures in
    let locks = c.an_order_keeps_locks_lawful.ensures in
    let steps : Steps = record { read = law.read; waiting = law.waiting; apart = law.apart; opens = locks.nothing; lawful = locks.step } in
    record {
      leads = λ rules lines legal. legal_leads steps c.a_told_state_is_fit.ensures rules legal;
      rules = rules_stay;
      next = goes_on;
      asked = asked_legal;
    }
