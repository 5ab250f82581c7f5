use Rattle.std.proofs.Common.{◌≡◌, ◌-◌, ◌++◌, length, drop, map}
use Rattle.fl_arena.specs.Chains.{items}
use Rattle.fl_arena.specs.Cursors.{cursor_at}
use Rattle.fl_state.proofs.walk.tell_chain.Given as goal

abbrev pub invariant-loop-item : goal.invariant-loop-item
invariant-loop-item g l = record {
  at : l.cursor ≡ cursor_at l.arena l.chain l.cursor.index;
  kept : g.S.StateSink.kept l.sink ≡ g.S.StateSink.kept l.fn.sink;
  rest : g.S.StateSink.told l.sink ++ map g.T.Says.said (drop l.cursor.index (items l.arena l.chain))
      ≡ g.S.StateSink.told l.fn.sink ++ map g.T.Says.said (items l.arena l.chain);
}

abbrev pub decreases-loop-item : goal.decreases-loop-item
decreases-loop-item g l = length (items l.arena l.chain) - l.cursor.index
