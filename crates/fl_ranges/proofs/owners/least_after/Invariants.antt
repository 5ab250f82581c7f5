use Rattle.std.proofs.Common.{◌≡◌, ◌-◌, None, length, drop}
use Rattle.fl_spans.specs.Rows.{chain_count, rows, IsRow}
use Rattle.fl_ranges.specs.Placing.{home}
use Rattle.fl_ranges.specs.Layout.{table_runs, runs_in}
use Rattle.fl_ranges.specs.Inside.Owners.{least_from}
use Rattle.fl_ranges.specs.Inside.Contenders.{class_rows}
use Rattle.fl_ranges.proofs.owners.least_after.Given as goal

abbrev pub invariant-loop-owner : goal.invariant-loop-owner
invariant-loop-owner l = record {
  row : IsRow l.table l.row;
  chain : l.row.chain ≡ home (chain_count l.table) l.key.node;
  rest : least_from l.key l.range.start l.range.end l.kind l.after None (table_runs l.table)
      ≡ least_from l.key l.range.start l.range.end l.kind l.after None (runs_in (class_rows l.key (drop l.row.index (rows l.table (home (chain_count l.table) l.key.node)))));
}

abbrev pub decreases-loop-owner : goal.decreases-loop-owner
decreases-loop-owner l = length (rows l.table (home (chain_count l.table) l.key.node)) - l.row.index
