use Rattle.fl_session.proofs.KnownLemmas.{answer_comes_again, reply_comes_again}
use Rattle.fl_session.proofs.laws.a_reply_is_sent_again.Goals as goal

pub returns : goal.returns
returns c = record { stored = reply_comes_again; own = answer_comes_again }
