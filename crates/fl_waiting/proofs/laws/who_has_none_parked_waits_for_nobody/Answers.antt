use Rattle.fl_waiting.proofs.Waiters.{waits_for_nobody}
use Rattle.fl_waiting.proofs.laws.who_has_none_parked_waits_for_nobody.Goals as goal

pub returns : goal.returns
returns c = waits_for_nobody
