use Rattle.std.proofs.Common.{rules, ◌≡◌, false, refl, sym, ◌∙◌}
use Rattle.fl_workers.proofs.DispatchLemmas.{dispatches_as, dispatches_none}
use Rattle.fl_workers.proofs.ReceivingLemmas.{goodbye_gives_none, message_gives_one, order_gives_none}
use Rattle.fl_workers.proofs.receiver.Receiver.receive.Goals as goal

pub returns-in-Order-clause-dispatched : goal.returns-in-Order-clause-dispatched
returns-in-Order-clause-dispatched g c = dispatches_as _ _ _ _ _ _ _
    (sym c.in-Order.is ∙ c.receive-incoming.ensures.incoming) c.put.ensures.dispatched

pub returns-in-Batch-clause-dispatched : goal.returns-in-Batch-clause-dispatched
returns-in-Batch-clause-dispatched g c = dispatches_as _ _ _ _ _ _ _
    (sym c.in-Batch.is ∙ c.receive-incoming.ensures.incoming) c.put_all.ensures.dispatched

pub returns-in-Response-clause-dispatched : goal.returns-in-Response-clause-dispatched
returns-in-Response-clause-dispatched g c = dispatches_as _ _ _ _ _ _ _
    (sym c.in-Response.is ∙ c.receive-incoming.ensures.incoming) (dispatches_none _ _ _)

pub returns-in-Response-2-clause-dispatched : goal.returns-in-Response-2-clause-dispatched
returns-in-Response-2-clause-dispatched g c = rw c.answer.ensures.same.0 (dispatches_as _ _ _ _ _ _ _
    (sym c.in-Response-2.is ∙ c.receive-incoming.ensures.incoming) (dispatches_none _ _ _))

pub returns-in-Order-clause-given : goal.returns-in-Order-clause-given
returns-in-Order-clause-given g c = order_gives_none _ _ _ _ _ _ _ (sym c.in-Order.is ∙ c.receive-incoming.ensures.incoming) refl refl
    refl

pub returns-in-Batch-clause-given : goal.returns-in-Batch-clause-given
returns-in-Batch-clause-given g c = order_gives_none _ _ _ _ _ _ _ (sym c.in-Batch.is ∙ c.receive-incoming.ensures.incoming)
    refl refl refl

pub returns-in-Response-clause-given : goal.returns-in-Response-clause-given
returns-in-Response-clause-given g c = goodbye_gives_none _ _ _ _ c.if-self.true

pub returns-in-Response-2-clause-given : goal.returns-in-Response-2-clause-given
returns-in-Response-2-clause-given g c =
    let live : c.answer.new.self.handshake.over ≡ false = search rules in
    message_gives_one _ _ _ _ _ _ _ live (sym c.receive-incoming.ensures.incoming ∙ c.in-Response-2.is)
    c.answer.ensures.given
