use Rattle.std.proofs.Common.{◌≡◌, ◌++◌, drop, map}
use Rattle.std.specs.List.{flat_map}
use Rattle.fl_ranges.specs.Layout.{runs_in}
use Rattle.fl_spans.specs.Rows.{row_lists}
use Rattle.fl_state.specs.Inside.Saying.{lock_part}
use Rattle.fl_state.proofs.rows.tell_locks.Given as goal

abbrev pub invariant-loop-chain : goal.invariant-loop-chain
invariant-loop-chain g l = record {
  kept : g.S.StateSink.kept l.sink ≡ g.S.StateSink.kept l.fn.sink;
  rest : g.S.StateSink.told l.sink ++ flat_map (λ rs. map lock_part (runs_in rs)) (drop l.chain (row_lists l.locks))
      ≡ g.S.StateSink.told l.fn.sink ++ flat_map (λ rs. map lock_part (runs_in rs)) (row_lists l.locks);
}
