use Rattle.fl_session.proofs.KnownLemmas.{has_each}
use Rattle.fl_session.proofs.laws.its_client_has_each_reply.Goals as goal

pub returns : goal.returns
returns c = has_each
