use Rattle.fl_transport.proofs.BatchLemmas.{Collects-trans}
use Rattle.fl_transport.proofs.reply_batch.ReplyBatch.collect_init.Goals as goal

pub returns-clause-collected : goal.returns-clause-collected
returns-clause-collected g c = Collects-trans _ _ _ _ _ c.flush.ensures.sent c.begin_init.ensures.collected
