use Rattle.std.proofs.Common.{◌≡◌, ◌++◌, take, string_bytes}
use Rattle.std.specs.List.{flat_map}
use Rattle.fl_locks.specs.Cells.{heading, cell_text}
use Rattle.fl_locks.specs.Table.{sized_columns, line_text}
use Rattle.fl_locks.proofs.table.lock_table.Given as goal

-- the headings and the rows so far are written
abbrev pub invariant-loop-row : goal.invariant-loop-row
invariant-loop-row l = (l.columns.items ≡ sized_columns l.rows) × (string_bytes l.text ≡ line_text (sized_columns l.rows) heading ++ flat_map (λ row. line_text (sized_columns l.rows) (λ column. cell_text column row)) (take l.row-index l.rows))
