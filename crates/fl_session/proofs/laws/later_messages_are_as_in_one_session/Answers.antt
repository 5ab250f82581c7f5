use Rattle.fl_session.proofs.LaterLemmas.{later_as_one}
use Rattle.fl_session.proofs.laws.later_messages_are_as_in_one_session.Goals as goal

pub returns : goal.returns
returns c = later_as_one
