use Rattle.std.proofs.Common.{rules, subst, sym}
use Rattle.fl_pool.specs.Running.{IsReady}
use Rattle.fl_pool.specs.Working.{IsFresh, reading}
use Rattle.fl_pool.proofs.WorkingLemmas.{all_pushed, ended, first_and_rest, moves, one_so_far}
use Rattle.fl_pool.proofs.pool.WorkerPool.start_all.Goals as goal

pub start-requires-clause-ready : goal.start-requires-clause-ready
start-requires-clause-ready g c _ _ =
    let read = reading g.C.Counter.worker g.C.Counter.count g.C.Counter.answered g.C.Counter.front g.C.Counter.stored in
    (first_and_rest (IsReady read g.C.Counter.most_tolds c.args.self.now.intake) _ _ c.in-Some.worker
    c.in-Some.ensures.steps.0 c.loop-worker.invariant.3).0

pub loop-worker-preserved : goal.loop-worker-preserved
loop-worker-preserved g c =
    let i = c.loop-worker.invariant in
    let steps = c.in-Some.ensures.steps.0 in
    let threads = c.push_reserved.ensures.items in
    let thread = c.in-Some-start.thread in
    let of = c.args.self.now.intake in
    let read = reading g.C.Counter.worker g.C.Counter.count g.C.Counter.answered g.C.Counter.front g.C.Counter.stored in
    let ready = first_and_rest (IsReady read g.C.Counter.most_tolds of) _ _ c.in-Some.worker steps i.3 in (
      one_so_far _ _ thread _ _ c.in-Some.worker _ i.0 threads steps,
      search rules,
      moves (λ t. t.promise.worker) (λ w. g.C.Counter.worker w.post.seat) _ _ thread _ _ c.in-Some.worker _ i.2 threads steps
          c.in-Some-start.ensures.whose,
      ready.1,
      all_pushed (λ t. IsFresh of t.promise.end.value) c.loop-worker.threads.items _ thread threads i.4
          (subst (IsFresh of) (sym c.in-Some-start.ensures.end) ready.0.end),
    )

pub returns-clause-whose : goal.returns-clause-whose
returns-clause-whose g c = λ all.
    ended (λ t. t.promise.worker) (λ w. g.C.Counter.worker w.post.seat) _ _ _ c.loop-worker.invariant.2 (search rules)
