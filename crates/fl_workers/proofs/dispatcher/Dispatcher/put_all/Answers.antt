use Rattle.std.proofs.Common.{◌∙◌, rules}
use Rattle.fl_workers.proofs.DispatchLemmas.{dispatches_next, dispatches_none}
use Rattle.fl_workers.proofs.dispatcher.Dispatcher.put_all.Goals as goal

pub loop-i-init : goal.loop-i-init
loop-i-init g c = record { same = search rules; dispatched = dispatches_none _ _ _ }

pub loop-i-preserved : goal.loop-i-preserved
loop-i-preserved g c =
    let so_far = c.loop-i.invariant in
    record {
      same = (c.put.ensures.same.0 ∙ so_far.same.0, c.put.ensures.same.1 ∙ so_far.same.1);
      dispatched = dispatches_next _ _ _ _ _ _ _ c.args.orders.now c.loop-i.i c.order.result c.order.ensures
          so_far.dispatched c.put.ensures.dispatched;
    }
