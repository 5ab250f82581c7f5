use Rattle.std.proofs.Common.{sym, subst, ◌∙◌}
use Rattle.fl_pool.specs.Working.{reading, standing_at}
use Rattle.fl_workers.specs.Worked.{HasDone}
use Rattle.fl_pool.proofs.pool.WorkerPool.work.Goals as goal

pub worker_loop-failures-requires-clause-end : goal.worker_loop-failures-requires-clause-end
worker_loop-failures-requires-clause-end g c = c.requires.end.0

pub worker_loop-failures-requires-clause-room : goal.worker_loop-failures-requires-clause-room
worker_loop-failures-requires-clause-room g c = c.requires.room

pub returns : goal.returns
returns g c =
    let read = reading g.C.Counter.worker g.C.Counter.count g.C.Counter.answered g.C.Counter.front g.C.Counter.stored in
    let post = c.worker_loop-failures.new.post in
    let end = c.worker_loop-failures.new.end in
    let failures = c.worker_loop-failures.result in
    let done = c.worker_loop-failures.ensures.did in
    record {
      whose = done.worked.worker;
      same = c.worker_loop-failures.ensures.end ∙ sym c.requires.end.0;
      did = subst (λ old. HasDone g.C.Counter.shows c.args.worker.end.taken end.taken old (standing_at read post.seat post.own) failures.refused failures.lost)
          c.requires.idle done;
    }
