use Rattle.std.proofs.Common.{refl}
use Rattle.fl_workers.proofs.DispatchLemmas.{all_handled}
use Rattle.fl_workers.proofs.inline.InlineWorker.handle.Goals as goal

pub returns-clause-handled : goal.returns-clause-handled
returns-clause-handled g c =
    rw (← c.self.view_is)
    (all_handled _ _ _ _ _ _ refl c.deref.ensures.value c.handle_all-more.ensures.did c.or.ensures c.clear.ensures.items)
