use Rattle.std.proofs.Common.{sym, ◌∙◌}
use Rattle.fl_ranges.proofs.RowStrokes.{removed_here, erased_here, erased_kept, left_stroked}
use Rattle.fl_ranges.proofs.row_change.erase_owner.Goals as goal

pub returns-then-own-clause-erased : goal.returns-then-own-clause-erased
returns-then-own-clause-erased c =
    erased_here c.args.table.now c.requires.table c.args.key.now c.find_row-own.result.0 c.find_row-own.ensures.at
    (sym c.find_row-own.ensures.own ∙ c.if-own.true) c.remove_row.new.self
    (removed_here c.args.table.now c.requires.table c.args.key.now c.find_row-own.result.0 c.find_row-own.ensures.at
    (sym c.find_row-own.ensures.own ∙ c.if-own.true) c.remove_row.new.self c.remove_row.ensures.rows)

pub returns-then-own-clause-table : goal.returns-then-own-clause-table
returns-then-own-clause-table c =
    erased_kept c.args.table.now c.requires.table c.args.key.now c.find_row-own.result.0 c.find_row-own.ensures.at
    (sym c.find_row-own.ensures.own ∙ c.if-own.true) c.remove_row.new.self
    (removed_here c.args.table.now c.requires.table c.args.key.now c.find_row-own.result.0 c.find_row-own.ensures.at
    (sym c.find_row-own.ensures.own ∙ c.if-own.true) c.remove_row.new.self c.remove_row.ensures.rows)
    c.remove_row.ensures.size

pub returns-else-own-clause-erased : goal.returns-else-own-clause-erased
returns-else-own-clause-erased c =
    left_stroked c.args.table.now c.requires.table c.args.key.now (sym c.find_row-own.ensures.own ∙ c.if-own.false) 0 9223372036854775807
