use Rattle.std.proofs.Common.{◌≡◌, ◌≢◌, ℕ, length}
use Rattle.fl_arena.specs.Chains.{entries, items, HasSizeOf}
use Rattle.fl_arena.specs.Cursors.{cursor_at}
use Rattle.fl_spans.proofs.changes.clear.Given as goal

abbrev pub invariant-loop-runs : goal.invariant-loop-runs
invariant-loop-runs g l = record {
  at : l.first ≡ cursor_at l.runs l.initial.first.chain 0;
  others : (c : ℕ) → c ≢ l.initial.first.chain → entries l.runs c ≡ entries l.initial.runs c;
  size : HasSizeOf l.initial.runs l.runs;
}

abbrev pub decreases-loop-runs : goal.decreases-loop-runs
decreases-loop-runs g l = length (items l.runs l.initial.first.chain)
