use Rattle.std.proofs.Common.{◌≡◌, ◌+◌, ◌-◌, Bool, length, drop}
use Rattle.std.specs.List.{position_or_len}
use Rattle.fl_arena.specs.Chains.{items}
use Rattle.fl_arena.specs.Cursors.{Tests, cursor_at}
use Rattle.fl_arena.proofs.chains.Arena.next_where.Given as goal

abbrev pub invariant-loop-item : goal.invariant-loop-item
invariant-loop-item g l = record {
  at : l.cursor ≡ cursor_at l.self l.fn.from.chain l.cursor.index;
  first : (p : g.row.T.Denot → Bool) → Tests g.F.Fn p l.test →
      l.fn.from.index + position_or_len p (drop l.fn.from.index (items l.self l.fn.from.chain))
      ≡ l.cursor.index + position_or_len p (drop l.cursor.index (items l.self l.fn.from.chain));
}

abbrev pub decreases-loop-item : goal.decreases-loop-item
decreases-loop-item g l = length (items l.self l.fn.from.chain) - l.cursor.index
