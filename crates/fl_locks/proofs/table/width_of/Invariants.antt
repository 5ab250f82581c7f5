use Rattle.std.proofs.Common.{◌≡◌, ◌∷◌, map, take}
use Rattle.fl_locks.specs.Cells.{heading, cell_text}
use Rattle.fl_locks.specs.Table.{longest}
use Rattle.fl_locks.proofs.table.width_of.Given as goal

-- the width of the rows so far
abbrev pub invariant-loop-row : goal.invariant-loop-row
invariant-loop-row l = l.width ≡ longest (heading l.column ∷ map (cell_text l.column) (take l.row-index l.rows))
