use Rattle.std.proofs.Common.{refl, ◌≤◌, ap, subst, ◌∙◌, arith, length}
use Rattle.fl_ranges.specs.Layout.{table_runs}
use Rattle.fl_ranges.specs.Inside.LockRows.{row_marks}
use Rattle.fl_ranges.specs.LockTable.{LockTable}
use Rattle.fl_ranges.specs.Setting.{CanBeSet}
use Rattle.fl_ranges.proofs.RowTables.{long_table}
use Rattle.fl_ranges.proofs.Setting.{can_be_set}
use Rattle.fl_ranges.proofs.TableCalls.{marking_spelled, table_apart}
use Rattle.fl_ranges.proofs.table.Table.rows.Goals as goal

pub returns-clause-marking : goal.returns-clause-marking
returns-clause-marking c = marking_spelled c.self.inside.rows ∙ ap (λ (t : LockTable). t.marking) c.self.view_is

pub returns-clause-settable : goal.returns-clause-settable
returns-clause-settable c =
    let v = c.self.inside.rows in
    let table = c.self.invariant in
    let few : length (table_runs v) ≤ c.self.inside.limit = (let long = long_table v in let most = table.few in omega (arith, long, most)) in
    subst (λ (t : LockTable). CanBeSet t.limit t.marking (table_runs v)) c.self.view_is
    (can_be_set c.self.inside.limit (row_marks v) (table_runs v) (table_apart v c.self.inside.limit table) refl few)

pub returns-clause-linked : goal.returns-clause-linked
returns-clause-linked c = c.keeps_links.ensures
