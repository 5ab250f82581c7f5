use Rattle.std.proofs.Common.{true, ap, ◌∙◌}
use Rattle.fl_marks.specs.Conflict.{conflicts}
use Rattle.fl_ranges.specs.LockTable.{LockTable}
use Rattle.fl_ranges.specs.Layout.{table_runs}
use Rattle.fl_ranges.proofs.Conflicting.{runs_conflict}
use Rattle.fl_ranges.proofs.TableCalls.{table_apart}
use Rattle.fl_ranges.proofs.table.Table.conflicts.Goals as goal

pub returns : goal.returns
returns c =
    let key = c.args.key.now in
    let range = c.args.range.now in
    let good = table_apart c.self.inside.rows c.self.inside.limit c.self.invariant in
    c.some_conflicts.ensures
    ∙ runs_conflict (λ _. true) key range.start range.end c.args.kind (table_runs c.self.inside.rows) range.ordered good.apart
    ∙ ap (λ (t : LockTable). conflicts t.marking key range.start range.end c.args.kind) c.self.view_is
