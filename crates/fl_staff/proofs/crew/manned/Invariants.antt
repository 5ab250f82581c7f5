use Rattle.std.proofs.Common.{◌≡◌, ◌+◌, ◌≤◌, ◌++◌, All, length, map, vec_capacity}
use Rattle.std.specs.List.{range_with_len}
use Rattle.fl_pool.specs.Running.{IsReady}
use Rattle.fl_pool.specs.Working.{IsFresh, reading}
use Rattle.fl_staff.specs.Served.{IsUnused}
use Rattle.fl_workers.specs.Room.{HasBatchFor}
use Rattle.fl_staff.proofs.crew.manned.Given as goal

-- a worker that can start for each seat so far, in their order, and an end, a room and a part of the ledger for each
-- other seat
abbrev pub invariant-loop-seat : goal.invariant-loop-seat
invariant-loop-seat g l = record {
  so_far : length l.workers.items + length l.seat-iterator.rest.items ≡ length l.fn.seats.items;
  number : l.number ≡ length l.workers.items;
  places : length l.fn.seats.items ≤ vec_capacity l.workers;
  parts : (l.rest.parts + length l.workers.items ≡ l.fn.rest.parts) × (l.rest.amount ≡ 0);
  whose : map g.C.Counter.worker l.seat-iterator.rest.items
      ≡ range_with_len l.number (length l.seat-iterator.rest.items);
  unused : All (IsUnused (reading g.C.Counter.worker g.C.Counter.count g.C.Counter.answered g.C.Counter.front
      g.C.Counter.stored)) l.seat-iterator.rest.items;
  seats : map (λ worker. worker.post.seat) l.workers.items ++ l.seat-iterator.rest.items ≡ l.fn.seats.items;
  ready : All (IsReady (reading g.C.Counter.worker g.C.Counter.count g.C.Counter.answered g.C.Counter.front
      g.C.Counter.stored) g.C.Counter.most_tolds l._intake) l.workers.items;
  enough : (length l.ends.items ≡ length l.seat-iterator.rest.items)
      × (length l.rooms.items ≡ length l.seat-iterator.rest.items);
  fresh : All (IsFresh l._intake) l.ends.items;
  batches : All (HasBatchFor g.C.Counter.most_tolds) l.rooms.items;
}
