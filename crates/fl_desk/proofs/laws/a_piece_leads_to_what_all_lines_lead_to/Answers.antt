use Rattle.fl_desk.proofs.Histories.{Steps}
use Rattle.fl_desk.proofs.Pieces.{ends_at, more_lines, one_piece, piece_goes_on, piece_legal, piece_same}
use Rattle.fl_desk.proofs.laws.a_piece_leads_to_what_all_lines_lead_to.Goals as goal

pub returns : goal.returns
returns c =
    let law = c.a_step_is_what_its_replies_give.ensures in
    let locks = c.an_order_keeps_locks_lawful.ensures in
    let steps : Steps = record { read = law.read; waiting = law.waiting; apart = law.apart; opens = locks.nothing; lawful = locks.step } in
    let fitting = c.a_told_state_is_fit.ensures in
    record {
      legal = piece_legal steps fitting;
      same = piece_same steps fitting;
      place = ends_at;
      goes_on = piece_goes_on steps fitting;
      one = one_piece;
      more = more_lines;
    }
