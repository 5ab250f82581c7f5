use Rattle.std.proofs.Common.{◌≡◌, ◌-◌, ◌<◌, ℕ, Some, length}
use Rattle.fl_arena.specs.Chains.{entries, slot_at}
use Rattle.fl_arena.specs.Cursors.{cursor_at}
use Rattle.fl_arena.proofs.chains.Arena.index_on.Given as goal

abbrev pub invariant-loop-cursor : goal.invariant-loop-cursor
invariant-loop-cursor g l = record {
  here : l.cursor ≡ cursor_at l.self l.chain l.cursor.index;
  not_before : (k : ℕ) → k < l.cursor.index → slot_at l.self l.chain k ≡ Some l.slot → ⊥;
}

abbrev pub decreases-loop-cursor : goal.decreases-loop-cursor
decreases-loop-cursor g l = length (entries l.self l.chain) - l.cursor.index
