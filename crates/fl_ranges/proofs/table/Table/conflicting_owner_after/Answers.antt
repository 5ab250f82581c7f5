use Rattle.std.proofs.Common.{ap}
use Rattle.fl_ranges.specs.LockTable.{LockTable}
use Rattle.fl_ranges.specs.Layout.{table_runs}
use Rattle.fl_ranges.proofs.OwnerConflicts.{least_found}
use Rattle.fl_ranges.proofs.TableCalls.{table_apart}
use Rattle.fl_ranges.proofs.table.Table.conflicting_owner_after.Goals as goal

pub returns : goal.returns
returns c =
    let range = c.args.range.now in
    let good = table_apart c.self.inside.rows c.self.inside.limit c.self.invariant in
    least_found c.args.key.now range.start range.end c.args.kind c.args.after (table_runs c.self.inside.rows) good.apart range.ordered
    c.least_after.result c.least_after.ensures c.args.self.now.marking (ap (λ (t : LockTable). t.marking) c.self.view_is)
