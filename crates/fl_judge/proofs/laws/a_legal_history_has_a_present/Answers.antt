use Rattle.fl_judge.proofs.Verdicts.{legal_present}
use Rattle.fl_judge.proofs.laws.a_legal_history_has_a_present.Goals as goal

pub returns : goal.returns
returns c = legal_present c.a_head_leads_to_what_it_tells.ensures.next
