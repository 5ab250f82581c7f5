use Rattle.fl_session.proofs.OnceLemmas.{goes_on_as_one}
use Rattle.fl_session.proofs.laws.a_session_goes_on_as_one.Goals as goal

pub returns : goal.returns
returns c = goes_on_as_one
