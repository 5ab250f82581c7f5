use Rattle.std.proofs.Common.{◌≡◌, length, arith}
use Rattle.std.proofs.lemmas.Grind.{common_steps}
use Rattle.fl_locks.specs.Cells.{cell_text}
use Rattle.fl_locks.proofs.Widths.{longest_more}
use Rattle.fl_locks.proofs.table.width_of.Goals as goal

pub loop-row-preserved : goal.loop-row-preserved
loop-row-preserved c =
    let cell = cell_text c.args.column in
    let len : c.len.result ≡ length (cell c.row-item.result) = grind (arith, common_steps, c.in_ok-push_cell.ensures) in
    omega (
      arith,
      len,
      longest_more cell c.args.rows.now c.loop-row.row-index c.row-item.result c.loop-row-test.true c.row-item.is,
      c.loop-row.invariant,
      c.max-width.ensures,
    )
