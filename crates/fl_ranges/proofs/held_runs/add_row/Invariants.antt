use Rattle.std.proofs.Common.{◌≡◌, ◌-◌, ◌++◌, length, drop, map}
use Rattle.fl_spans.specs.Rows.{run_cursor}
use Rattle.fl_spans.specs.Row.{spans_at}
use Rattle.fl_ranges.specs.Layout.{run_of}
use Rattle.fl_ranges.proofs.held_runs.add_row.Given as goal

abbrev pub invariant-loop-span : goal.invariant-loop-span
invariant-loop-span l = record {
  at : l.next ≡ run_cursor l.table l.row.chain l.row.index l.next.index;
  rest : l.runs.items ++ map (run_of l.key) (drop l.next.index (spans_at l.table l.row))
      ≡ l.fn.runs.items ++ map (run_of l.key) (spans_at l.table l.row);
}

abbrev pub decreases-loop-span : goal.decreases-loop-span
decreases-loop-span l = length (spans_at l.table l.row) - l.next.index
