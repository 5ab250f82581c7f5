use Rattle.fl_workers.proofs.ReceivingLemmas.{gives_one, loses_one}
use Rattle.fl_workers.proofs.receiver.Receiver.answer.Goals as goal

pub returns-then-collect-clause-given : goal.returns-then-collect-clause-given
returns-then-collect-clause-given g c = gives_one _ _ _ _ (c.collect.ensures.appended c.if-collect.true)

pub returns-clause-given : goal.returns-clause-given
returns-clause-given g c = loses_one _ _ _ _ (c.collect.ensures.refused c.if-collect.false).1
