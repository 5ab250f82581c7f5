use Rattle.std.proofs.Common.{◌≡◌, ◌-◌, ◌++◌, length, drop, map}
use Rattle.fl_ranges.specs.Layout.{run_of}
use Rattle.fl_spans.specs.Row.{spans_at}
use Rattle.fl_spans.specs.Rows.{run_cursor}
use Rattle.fl_state.specs.Inside.Saying.{lock_part}
use Rattle.fl_state.proofs.rows.tell_row.Given as goal

abbrev pub invariant-loop-span : goal.invariant-loop-span
invariant-loop-span g l = record {
  at : l.next ≡ run_cursor l.locks l.row.chain l.row.index l.next.index;
  kept : g.S.StateSink.kept l.sink ≡ g.S.StateSink.kept l.fn.sink;
  rest : g.S.StateSink.told l.sink ++ map (λ s. lock_part (run_of l.key s)) (drop l.next.index (spans_at l.locks l.row))
      ≡ g.S.StateSink.told l.fn.sink ++ map (λ s. lock_part (run_of l.key s)) (spans_at l.locks l.row);
}

abbrev pub decreases-loop-span : goal.decreases-loop-span
decreases-loop-span g l = length (spans_at l.locks l.row) - l.next.index
