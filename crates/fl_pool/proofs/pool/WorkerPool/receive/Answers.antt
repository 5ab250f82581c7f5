use Rattle.std.proofs.Common.{◌+◌, ◌∙◌, ap, sum_by, sym}
use Rattle.fl_pool.specs.Working.{reading}
use Rattle.fl_pool.proofs.RunningLemmas.{received_at}
use Rattle.fl_pool.proofs.pool.WorkerPool.receive.Goals as goal

pub returns-clause-ran : goal.returns-clause-ran
returns-clause-ran g c =
    let all = c.receive_all-received.ensures in
    let it = received_at (reading g.C.Counter.worker g.C.Counter.count g.C.Counter.answered g.C.Counter.front g.C.Counter.stored) g.C.Counter.shows c.args.self.now.intake c.args.first _ _ _ _ c.args.back _ g.C.Counter.most_tolds c.inline_of.ensures
    all.received.1 all.handled c.requires.ready c.requires.none c.add_inline.ensures c.requires.room.1 in
    record {
      same = (c.close.ensures.same.0 ∙ all.same.0 ∙ c.requires.can.unused.0, c.close.ensures.same.1 ∙ all.same.1);
      orders = all.received.0;
      inline = it.0;
      shared = λ weight. it.1 weight
          ∙ ap (λ l. sum_by weight l + sum_by weight it.0) (sym c.close.ensures.same.2);
      worked = it.2;
      received = all.received.2;
      memory = all.memory;
    }
