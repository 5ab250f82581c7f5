use Rattle.fl_transport.proofs.BatchLemmas.{Collects-sent}
use Rattle.fl_transport.proofs.reply_batch.ReplyBatch.flush.Goals as goal

pub returns-then-not-is_empty-clause-sent : goal.returns-then-not-is_empty-clause-sent
returns-then-not-is_empty-clause-sent g c = Collects-sent _ _ _ c.as_slice.ensures c.clear.ensures
    c.post.ensures.sent
