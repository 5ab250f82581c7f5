use Rattle.fl_transport.proofs.BatchLemmas.{Collects-trans}
use Rattle.fl_transport.proofs.reply_batch.ReplyBatch.collect_one.Goals as goal

pub returns-then-not-append-clause-collected : goal.returns-then-not-append-clause-collected
returns-then-not-append-clause-collected g c = Collects-trans _ _ _ _ _
    (Collects-trans _ _ _ _ _ (c.append.ensures.full c.if-not-append.true) c.flush.ensures.sent) c.begin.ensures.collected
