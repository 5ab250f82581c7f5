use Rattle.std.proofs.Common.{◌≡◌, ◌+◌, ◌≤◌, ◌++◌, All, length, map, vec_capacity}
use Rattle.fl_pool.specs.Running.{IsReady}
use Rattle.fl_pool.specs.Working.{IsFresh, reading}
use Rattle.fl_pool.proofs.pool.WorkerPool.start_all.Given as goal

-- a thread for each worker so far, in their order, and the others can start
abbrev pub invariant-loop-worker : goal.invariant-loop-worker
invariant-loop-worker g l = (length l.threads.items + length l.worker-iterator.rest.items ≡ length l.fn.workers.items)
    × (length l.fn.workers.items ≤ vec_capacity l.threads)
    × (map (λ t. t.promise.worker) l.threads.items ++ map (λ w. g.C.Counter.worker w.post.seat) l.worker-iterator.rest.items
    ≡ map (λ w. g.C.Counter.worker w.post.seat) l.fn.workers.items)
    × All (IsReady (reading g.C.Counter.worker g.C.Counter.count g.C.Counter.answered g.C.Counter.front g.C.Counter.stored) g.C.Counter.most_tolds l.self.intake) l.worker-iterator.rest.items
    × All (λ t. IsFresh l.self.intake t.promise.end.value) l.threads.items
