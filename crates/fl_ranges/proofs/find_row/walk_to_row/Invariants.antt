use Rattle.std.proofs.Common.{◌≡◌, ◌+◌, ◌-◌, length, drop}
use Rattle.fl_spans.specs.Rows.{chain_count, rows, IsRow}
use Rattle.fl_ranges.specs.Placing.{home}
use Rattle.fl_ranges.specs.Inside.LockRows.{row_index, has_row}
use Rattle.fl_ranges.proofs.find_row.walk_to_row.Given as goal

abbrev pub invariant-loop-here : goal.invariant-loop-here
invariant-loop-here l = record {
  row : IsRow l.table l.row;
  chain : l.row.chain ≡ home (chain_count l.table) l.key.node;
  index : row_index l.key (rows l.table (home (chain_count l.table) l.key.node)) ≡ l.row.index + row_index l.key (drop l.row.index (rows l.table (home (chain_count l.table) l.key.node)));
  own : has_row l.key (rows l.table (home (chain_count l.table) l.key.node)) ≡ has_row l.key (drop l.row.index (rows l.table (home (chain_count l.table) l.key.node)));
}

abbrev pub decreases-loop-here : goal.decreases-loop-here
decreases-loop-here l = length (rows l.table (home (chain_count l.table) l.key.node)) - l.row.index
