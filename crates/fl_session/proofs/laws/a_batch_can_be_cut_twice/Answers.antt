use Rattle.fl_session.proofs.BatchLemmas.{twice_as_one}
use Rattle.fl_session.proofs.laws.a_batch_can_be_cut_twice.Goals as goal

pub returns : goal.returns
returns c = twice_as_one
