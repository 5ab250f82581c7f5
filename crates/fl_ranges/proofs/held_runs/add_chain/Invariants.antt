use Rattle.std.proofs.Common.{◌≡◌, ◌-◌, ◌++◌, length, drop}
use Rattle.fl_spans.specs.Rows.{rows, IsRow}
use Rattle.fl_ranges.specs.Layout.{runs_in}
use Rattle.fl_ranges.proofs.held_runs.add_chain.Given as goal

abbrev pub invariant-loop-key : goal.invariant-loop-key
invariant-loop-key l = record {
  row : IsRow l.table l.row;
  chain : l.row.chain ≡ l.chain;
  rest : l.runs.items ++ runs_in (drop l.row.index (rows l.table l.chain)) ≡ l.fn.runs.items ++ runs_in (rows l.table l.chain);
}

abbrev pub decreases-loop-key : goal.decreases-loop-key
decreases-loop-key l = length (rows l.table l.chain) - l.row.index
