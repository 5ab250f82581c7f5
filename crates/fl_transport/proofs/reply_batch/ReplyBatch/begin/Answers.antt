use Rattle.fl_transport.proofs.BatchLemmas.{Collects-first}
use Rattle.fl_transport.proofs.reply_batch.ReplyBatch.begin.Goals as goal

pub returns-clause-collected : goal.returns-clause-collected
returns-clause-collected g c = Collects-first _ _ _ c.requires.none c.lay_out.ensures.bytes c.lay_out.ensures.reply
