use Rattle.std.proofs.Common.{◌≡◌, ◌≢◌, ℕ, ◌+◌, ◌-◌, ◌≤◌, ◌++◌, take, drop}
use Rattle.fl_arena.specs.Chains.{entries, items, HasSizeOf}
use Rattle.fl_arena.specs.Cursors.{cursor_at}
use Rattle.fl_spans.proofs.changes.take_out.Given as goal

abbrev pub invariant-loop-taken : goal.invariant-loop-taken
invariant-loop-taken g l = record {
  at : l.from ≡ cursor_at l.runs l.initial.from.chain l.initial.from.index;
  upto : l.taken ≤ l.count;
  left : items l.runs l.initial.from.chain
      ≡ take l.initial.from.index (items l.initial.runs l.initial.from.chain)
      ++ drop (l.initial.from.index + l.taken) (items l.initial.runs l.initial.from.chain);
  others : (c : ℕ) → c ≢ l.initial.from.chain → entries l.runs c ≡ entries l.initial.runs c;
  size : HasSizeOf l.initial.runs l.runs;
}

abbrev pub decreases-loop-taken : goal.decreases-loop-taken
decreases-loop-taken g l = l.count - l.taken
