use Rattle.std.proofs.Common.{refl}
use Rattle.fl_workers.proofs.DispatchLemmas.{dispatches_inline}
use Rattle.fl_workers.proofs.dispatcher.Dispatcher.put.Goals as goal

pub returns-in-Some-clause-dispatched : goal.returns-in-Some-clause-dispatched
returns-in-Some-clause-dispatched g c = rw c.in-Some.is (dispatches_inline _ _ _ _ _ _ refl c.take.ensures)
