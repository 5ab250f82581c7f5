use Rattle.fl_desk.proofs.Histories.{Steps, leads_on, nothing_leads}
use Rattle.fl_desk.proofs.laws.an_order_leads_on.Goals as goal

pub returns : goal.returns
returns c =
    let law = c.a_step_is_what_its_replies_give.ensures in
    let locks = c.an_order_keeps_locks_lawful.ensures in
    let steps : Steps = record { read = law.read; waiting = law.waiting; apart = law.apart; opens = locks.nothing; lawful = locks.step } in
    record { nothing = nothing_leads steps; step = leads_on steps }
