use Rattle.std.proofs.Common.{◌≡◌, ◌+◌, ◌-◌, ◌≤◌, length}
use Rattle.fl_session.proofs.ListLemmas.{with_left}
use Rattle.fl_session.specs.Whole.{entries_behind}
use Rattle.fl_session.proofs.whole.append_entries.Given as goal

-- what is laid out, and what fits of those behind, is what fits of all
abbrev pub invariant-loop-entry : goal.invariant-loop-entry
invariant-loop-entry l = record {
  within : length l.replies ≤ 16 + l.most;
  rest : with_left l.most l.replies (entries_behind l.directory l.node l.at)
      ≡ with_left l.most l.initial.replies (entries_behind l.directory l.node l.cookie);
}

abbrev pub decreases-loop-entry : goal.decreases-loop-entry
decreases-loop-entry l = 16 + l.most - length l.replies
