use Rattle.fl_session.proofs.BatchLemmas.{batch_as_one}
use Rattle.fl_session.proofs.laws.a_batch_goes_on_as_one.Goals as goal

pub returns : goal.returns
returns c =
    let settling = c.settling_answers_the_oldest_first.ensures in
    let first = c.own_reply_comes_first.ensures in
    let legal = c.a_legal_history_goes_on_by_orders.ensures in
    batch_as_one (record {
      quiet = λ rules s wait. (settling.nothing rules s).1 wait;
      leads = legal.leads;
      none = first.none;
    })
