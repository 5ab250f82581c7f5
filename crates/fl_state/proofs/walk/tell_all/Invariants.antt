use Rattle.std.proofs.Common.{◌≡◌, ◌++◌, drop, map}
use Rattle.std.specs.List.{flat_map}
use Rattle.fl_state.proofs.walk.tell_all.Given as goal

abbrev pub invariant-loop-chain : goal.invariant-loop-chain
invariant-loop-chain g l = record {
  kept : g.S.StateSink.kept l.sink ≡ g.S.StateSink.kept l.fn.sink;
  rest : g.S.StateSink.told l.sink ++ flat_map (λ es. map g.T.Says.said (map (λ e. e.item) es)) (drop l.chain l.arena.chains)
      ≡ g.S.StateSink.told l.fn.sink ++ flat_map (λ es. map g.T.Says.said (map (λ e. e.item) es)) l.arena.chains;
}
