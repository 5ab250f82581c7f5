use Rattle.std.proofs.Common.{◌||◌, ◌==◌, false, slice_index_or, ap, ◌∙◌}
use Rattle.fl_ranges.specs.LockTable.{LockTable}
use Rattle.fl_marks.specs.Conflict.{owner_conflicts}
use Rattle.fl_ranges.specs.Layout.{table_runs}
use Rattle.fl_ranges.proofs.Conflicting.{runs_conflict}
use Rattle.fl_ranges.proofs.TableCalls.{table_apart}
use Rattle.fl_ranges.proofs.table.Table.find_conflicting_owners.Goals as goal

pub returns : goal.returns
returns c =
    let key = c.args.key.now in
    let range = c.args.range.now in
    let good = table_apart c.self.inside.rows c.self.inside.limit c.self.invariant in
    λ k within.
    let o = slice_index_or c.args.owners.now k 0 in
    c.find_among.ensures k within
    ∙ ap (λ b. slice_index_or c.args.found.now k false || b)
    (runs_conflict (λ x. x == o) key range.start range.end c.args.kind (table_runs c.self.inside.rows) range.ordered good.apart
    ∙ ap (λ (t : LockTable). owner_conflicts t.marking key range.start range.end c.args.kind o) c.self.view_is)
