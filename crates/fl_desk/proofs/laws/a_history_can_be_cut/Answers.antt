use Rattle.fl_desk.proofs.Cuts.{goes_on_alike, goes_on_behind}
use Rattle.fl_desk.proofs.Histories.{Steps}
use Rattle.fl_desk.proofs.laws.a_history_can_be_cut.Goals as goal

pub returns : goal.returns
returns c =
    let law = c.a_step_is_what_its_replies_give.ensures in
    let locks = c.an_order_keeps_locks_lawful.ensures in
    let steps : Steps = record { read = law.read; waiting = law.waiting; apart = law.apart; opens = locks.nothing; lawful = locks.step } in
    record {
      alike = λ front other rest p q to_front to_other none same. (
        goes_on_alike steps front other rest p q to_front to_other none same,
        goes_on_alike steps other front rest p q to_other to_front none same,
      );
      piece = goes_on_behind steps c.a_told_state_is_fit.ensures;
    }
