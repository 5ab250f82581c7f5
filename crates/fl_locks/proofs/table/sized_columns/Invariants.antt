use Rattle.std.proofs.Common.{◌≡◌, map, take}
use Rattle.fl_locks.specs.Table.{width_of, inner_columns}
use Rattle.fl_locks.proofs.table.sized_columns.Given as goal

-- the columns so far have their widths
abbrev pub invariant-loop-column : goal.invariant-loop-column
invariant-loop-column l = l.columns.items ≡ map (λ column. record { column = column; width = width_of l.rows column }) (take l.column-index inner_columns)
