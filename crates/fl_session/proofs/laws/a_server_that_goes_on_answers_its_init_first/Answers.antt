use Rattle.fl_session.proofs.FirstLemmas.{init_first}
use Rattle.fl_session.proofs.laws.a_server_that_goes_on_answers_its_init_first.Goals as goal

pub returns : goal.returns
returns c = init_first
