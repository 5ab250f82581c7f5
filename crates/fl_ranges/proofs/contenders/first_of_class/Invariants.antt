use Rattle.std.proofs.Common.{◌≡◌, ◌-◌, length, drop}
use Rattle.fl_spans.specs.Rows.{chain_count, rows, IsRow}
use Rattle.fl_ranges.specs.Placing.{home}
use Rattle.fl_ranges.specs.Inside.Contenders.{rows_from}
use Rattle.fl_ranges.proofs.contenders.first_of_class.Given as goal

abbrev pub invariant-loop-other : goal.invariant-loop-other
invariant-loop-other l = record {
  row : IsRow l.table l.row;
  chain : l.row.chain ≡ home (chain_count l.table) l.key.node;
  rest : rows_from l.key (drop l.row.index (rows l.table (home (chain_count l.table) l.key.node))) ≡ rows_from l.key (rows l.table (home (chain_count l.table) l.key.node));
}

abbrev pub decreases-loop-other : goal.decreases-loop-other
decreases-loop-other l = length (rows l.table (home (chain_count l.table) l.key.node)) - l.row.index
