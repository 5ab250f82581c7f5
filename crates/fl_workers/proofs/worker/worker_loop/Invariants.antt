use Rattle.std.proofs.Common.{◌≡◌, ◌<◌}
use Rattle.std.specs.Prelude.{vec_capacity}
use Rattle.fl_workers.specs.Room.{HasRoomFor}
use Rattle.fl_workers.specs.Worked.{HasDone, standing}
use Rattle.fl_workers.proofs.worker.worker_loop.Given as goal

-- the end is this intake's, there is room for a batch and the replies to it, and what the end took so far was handled
abbrev pub invariant-loop : goal.invariant-loop
invariant-loop g l =
    let there = standing g.C.Counter.worker g.C.Counter.count g.C.Counter.answered g.C.Counter.front g.C.Counter.stored in record {
      end : l.end.of ≡ l.intake;
      batch : 0 < vec_capacity l.batch;
      room : HasRoomFor g.C.Counter.most_tolds l.replies;
      done : HasDone g.C.Counter.shows l.fn.end.taken l.end.taken (there l.fn.post.seat l.fn.post.own)
          (there l.post.seat l.post.own) l.failures.refused l.failures.lost;
    }
