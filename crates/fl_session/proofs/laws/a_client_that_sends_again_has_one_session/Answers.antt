use Rattle.std.proofs.Common.{refl}
use Rattle.fl_session.proofs.BatchLemmas.{AreKnown}
use Rattle.fl_session.proofs.ClientLemmas.{client_as_one, client_as_one_inside, near_short}
use Rattle.fl_session.proofs.NewLemmas.{Settles}
use Rattle.fl_session.proofs.RepliedLemmas.{told_again}
use Rattle.fl_session.proofs.laws.a_client_that_sends_again_has_one_session.Goals as goal

pub returns : goal.returns
returns c =
    let settling = c.settling_answers_the_oldest_first.ensures in
    let known : AreKnown = record {
      quiet = λ rules s wait. (settling.nothing rules s).1 wait;
      leads = c.a_legal_history_goes_on_by_orders.ensures.leads;
      none = c.own_reply_comes_first.ensures.none;
    } in
    let settles : Settles = λ rules s. (settling.told rules s _ _).1 (refl, refl) in
    record {
      one = client_as_one known settles;
      batch = client_as_one_inside known settles;
      replied = told_again settles;
      short = near_short;
    }
