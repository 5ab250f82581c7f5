use Rattle.fl_session.proofs.CutLemmas.{cut_off, cut_unrefused}
use Rattle.fl_session.proofs.laws.what_a_cut_session_leaves_is_a_session.Goals as goal

pub returns : goal.returns
returns c =
    let legal = c.a_legal_history_goes_on_by_orders.ensures in
    record {
      left = cut_off (record { leads = legal.leads; rules = legal.rules; next = legal.next });
      unrefused = cut_unrefused;
    }
