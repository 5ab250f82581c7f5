use Rattle.std.proofs.Common.{refl, rules}
use Rattle.fl_workers.proofs.DispatchLemmas.{dispatches_put}
use Rattle.fl_workers.proofs.dispatcher.Dispatcher.enqueue.Goals as goal

pub returns-clause-dispatched : goal.returns-clause-dispatched
returns-clause-dispatched g c = dispatches_put _ _ _ _ _ _ (search rules) refl
