use Rattle.lockd_serve.proofs.HeardLemmas.{behind_alike, head_unspoken, last_heard, recalls_alike}
use Rattle.lockd_serve.proofs.session_laws.the_last_lines_of_the_piece_before_are_enough.Goals as goal

pub returns : goal.returns
returns c =
    let legal = c.a_legal_history_goes_on_by_orders.ensures in
    record {
      head = head_unspoken;
      enough = last_heard;
      recalled = recalls_alike;
      alike = behind_alike (record { leads = legal.leads; rules = legal.rules; piece = c.a_history_can_be_cut.ensures.piece });
    }
