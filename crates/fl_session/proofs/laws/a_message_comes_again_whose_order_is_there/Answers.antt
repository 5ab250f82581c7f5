use Rattle.fl_session.proofs.ClientLemmas.{own_comes}
use Rattle.fl_session.proofs.KnownLemmas.{asked_comes, batch_comes, parked_comes, replied_comes}
use Rattle.fl_session.proofs.laws.a_message_comes_again_whose_order_is_there.Goals as goal

pub returns : goal.returns
returns c = record {
  replied = replied_comes;
  asked = asked_comes;
  batch = batch_comes;
  parked = parked_comes;
  own = own_comes;
}
