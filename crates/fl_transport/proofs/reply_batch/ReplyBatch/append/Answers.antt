use Rattle.fl_transport.proofs.BatchLemmas.{Collects-none, Collects-one}
use Rattle.fl_transport.proofs.reply_batch.ReplyBatch.append.Goals as goal

pub returns-clause-done : goal.returns-clause-done
returns-clause-done g c = λ done. Collects-one _ _ _ (c.append.ensures.done done) (c.append.ensures.reply done)

pub returns-clause-full : goal.returns-clause-full
returns-clause-full g c = λ full. rw (c.append.ensures.full full) (Collects-none _)
