use Rattle.std.proofs.Common.{◌≡◌, ◌-◌, ◌++◌, length, drop, map}
use Rattle.std.specs.List.{flat_map}
use Rattle.fl_ranges.specs.Layout.{runs_of}
use Rattle.fl_spans.specs.Rows.{rows, IsRow}
use Rattle.fl_state.specs.Inside.Saying.{lock_part}
use Rattle.fl_state.proofs.rows.tell_rows.Given as goal

abbrev pub invariant-loop-key : goal.invariant-loop-key
invariant-loop-key g l = record {
  row : IsRow l.locks l.row;
  chain : l.row.chain ≡ l.chain;
  kept : g.S.StateSink.kept l.sink ≡ g.S.StateSink.kept l.fn.sink;
  rest : g.S.StateSink.told l.sink ++ flat_map (λ r. map lock_part (runs_of r)) (drop l.row.index (rows l.locks l.chain))
      ≡ g.S.StateSink.told l.fn.sink ++ flat_map (λ r. map lock_part (runs_of r)) (rows l.locks l.chain);
}

abbrev pub decreases-loop-key : goal.decreases-loop-key
decreases-loop-key g l = length (rows l.locks l.chain) - l.row.index
