use Rattle.std.proofs.Common.{◌≡◌, ◌-◌, length, take}
use Rattle.std.specs.List.{AllByRecursion}
use Rattle.fl_spans.specs.Rows.{chain_count, rows, limit_of, IsRow}
use Rattle.fl_ranges.specs.Placing.{home}
use Rattle.fl_marks.specs.Runs.{without_node}
use Rattle.fl_ranges.specs.Inside.LockRows.{row_marks, IsLockTable}
use Rattle.fl_ranges.proofs.RowNodes.{IsOff}
use Rattle.fl_ranges.proofs.row_change.erase_node.Given as goal

abbrev pub invariant-loop-key : goal.invariant-loop-key
invariant-loop-key l = record {
  table : IsLockTable l.table (limit_of l.table) (chain_count l.fn.table);
  room : limit_of l.table ≡ limit_of l.fn.table;
  row : IsRow l.table l.row;
  chain : l.row.chain ≡ home (chain_count l.fn.table) l.node;
  marks : without_node l.node (row_marks l.table) ≡ without_node l.node (row_marks l.fn.table);
  off : AllByRecursion (IsOff l.node) (take l.row.index (rows l.table (home (chain_count l.fn.table) l.node)));
}

abbrev pub decreases-loop-key : goal.decreases-loop-key
decreases-loop-key l = length (rows l.table (home (chain_count l.fn.table) l.node)) - l.row.index
