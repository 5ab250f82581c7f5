use Rattle.std.proofs.Common.{◌≤◌, length, take}
use Rattle.std.specs.Prelude.{◌-◌}
use Rattle.fl_workers.specs.Room.{HasRoomFor}
use Rattle.fl_workers.specs.Worked.{HasWorked, standing}
use Rattle.fl_workers.proofs.worker.handle_all.Given as goal

-- there is room for the replies of any order, and the orders so far were handled
abbrev pub invariant-loop-done : goal.invariant-loop-done
invariant-loop-done g l =
    let there = standing g.C.Counter.worker g.C.Counter.count g.C.Counter.answered g.C.Counter.front g.C.Counter.stored in record {
      within : l.done ≤ length l.orders;
      room : HasRoomFor g.C.Counter.most_tolds l.replies;
      worked : HasWorked g.C.Counter.shows (take l.done l.orders) (there l.fn.post.seat l.fn.post.own)
          (there l.post.seat l.post.own) l.failures.refused l.failures.lost;
    }

abbrev pub decreases-loop-done : goal.decreases-loop-done
decreases-loop-done g l = length l.orders - l.done
