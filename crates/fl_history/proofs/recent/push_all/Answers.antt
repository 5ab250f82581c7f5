use Rattle.std.specs.VecDeque.Iter.{deque_iter_rest}
use Rattle.fl_history.proofs.Recalling.{pushing_on}
use Rattle.fl_history.proofs.recent.push_all.Goals as goal

pub loop-entry-preserved : goal.loop-entry-preserved
loop-entry-preserved c =
    let now = c.loop-entry in (
      pushing_on c.args.entries.now.items c.args.later.now.items now.entries.items (deque_iter_rest now.entry-iterator)
          (deque_iter_rest c.next.new.self) c.push_last.new.entries.items c.in-Some.entry.now now.invariant.0
          c.in-Some.ensures.steps c.push_last.ensures.items,
      c.push_last.ensures.room,
    )
