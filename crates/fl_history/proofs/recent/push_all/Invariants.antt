use Rattle.std.proofs.Common.{◌≤◌}
use Rattle.std.specs.VecDeque.{deque_capacity}
use Rattle.std.specs.VecDeque.Iter.{deque_iter_rest}
use Rattle.fl_history.proofs.Recalling.{IsPushing}
use Rattle.fl_history.proofs.recent.push_all.Given as goal

abbrev pub invariant-loop-entry : goal.invariant-loop-entry
invariant-loop-entry l =
    IsPushing l.fn.entries.items l.later.items l.entries.items (deque_iter_rest l.entry-iterator)
    × (65536 ≤ deque_capacity l.entries)
