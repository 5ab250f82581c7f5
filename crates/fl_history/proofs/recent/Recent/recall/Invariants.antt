use Rattle.std.specs.VecDeque.Iter.{deque_iter_rest}
use Rattle.fl_history.proofs.Recalling.{IsSaying}
use Rattle.fl_history.proofs.recent.Recent.recall.Given as goal

abbrev pub invariant-loop-entry : goal.invariant-loop-entry
invariant-loop-entry l = IsSaying l.unique l.self l.recalled (deque_iter_rest l.entry-iterator)
