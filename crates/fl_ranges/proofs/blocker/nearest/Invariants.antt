use Rattle.std.proofs.Common.{◌≡◌, ◌-◌, ◌≤◌, None, length, drop}
use Rattle.fl_spans.specs.Rows.{chain_count, rows, IsRow}
use Rattle.fl_ranges.specs.Placing.{home}
use Rattle.fl_ranges.specs.Layout.{table_runs, runs_in}
use Rattle.fl_ranges.specs.Inside.Nearest.{nearest_from}
use Rattle.fl_ranges.specs.Inside.Contenders.{class_rows}
use Rattle.fl_ranges.proofs.ContenderNearest.{IsBestOf}
use Rattle.fl_ranges.proofs.blocker.nearest.Given as goal

abbrev pub invariant-loop-owner : goal.invariant-loop-owner
invariant-loop-owner l = record {
  row : IsRow l.table l.row;
  chain : l.row.chain ≡ home (chain_count l.table) l.key.node;
  some : l.range.start ≤ l.last;
  best : IsBestOf l.key l.range.start l.range.end l.kind l.last (drop l.row.index (rows l.table (home (chain_count l.table) l.key.node))) l.best;
  rest : nearest_from l.key l.range.start l.range.end l.kind None (table_runs l.table)
      ≡ nearest_from l.key l.range.start l.range.end l.kind l.best (runs_in (class_rows l.key (drop l.row.index (rows l.table (home (chain_count l.table) l.key.node)))));
}

abbrev pub decreases-loop-owner : goal.decreases-loop-owner
decreases-loop-owner l = length (rows l.table (home (chain_count l.table) l.key.node)) - l.row.index
