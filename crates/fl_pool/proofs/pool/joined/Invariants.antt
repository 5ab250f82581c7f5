use Rattle.std.proofs.Common.{◌≡◌, ◌+◌, ◌<◌, ◌≤◌, ◌++◌, ℕ, List, All, length, map, vec_capacity}
use Rattle.fl_counter.specs.Asked.{Orders}
use Rattle.fl_pool.specs.Running.{HaveWorked}
use Rattle.fl_pool.specs.Working.{IsFresh, reading}
use Rattle.fl_pool.proofs.pool.joined.Given as goal

-- each thread so far came back, and there is room for the others
abbrev pub invariant-loop-thread : goal.invariant-loop-thread
invariant-loop-thread g l = record {
  room : (length l.ran.back.seats.items + length l.thread-iterator.rest.items ≤ vec_capacity l.ran.back.seats)
      × (length l.ran.back.appenders.items + length l.thread-iterator.rest.items < vec_capacity l.ran.back.appenders)
      × (length l.ran.back.ends.items + length l.thread-iterator.rest.items ≤ vec_capacity l.ran.back.ends);
  fresh : All (λ t. IsFresh l.intake t.promise.end.value) l.thread-iterator.rest.items;
  same : l.ran.received ≡ l.fn.ran.received;
  worked : (workers : List ℕ) (inline : Orders)
      → HaveWorked (reading g.C.Counter.worker g.C.Counter.count g.C.Counter.answered g.C.Counter.front g.C.Counter.stored) g.C.Counter.shows l.intake workers inline l.fn.ran.back
      → (names : List ℕ) × (names ++ map (λ t. t.promise.worker) l.thread-iterator.rest.items
      ≡ workers ++ map (λ t. t.promise.worker) l.fn.threads.items)
      × HaveWorked (reading g.C.Counter.worker g.C.Counter.count g.C.Counter.answered g.C.Counter.front g.C.Counter.stored) g.C.Counter.shows l.intake names inline l.ran.back;
}
