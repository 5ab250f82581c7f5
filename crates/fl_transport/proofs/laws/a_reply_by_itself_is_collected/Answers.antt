use Rattle.std.proofs.Common.{refl}
use Rattle.fl_transport.proofs.BatchLemmas.{Collects-first}
use Rattle.fl_transport.proofs.laws.a_reply_by_itself_is_collected.Goals as goal

pub returns : goal.returns
returns c = λ out reply none is. Collects-first out reply reply none refl is
