use Rattle.std.proofs.Common.{ap, ◌∙◌}
use Rattle.fl_ranges.specs.LockTable.{LockTable}
use Rattle.fl_marks.specs.Runs.{runs}
use Rattle.fl_ranges.proofs.TableCalls.{runs_counted}
use Rattle.fl_ranges.proofs.table.Table.runs.Goals as goal

pub returns : goal.returns
returns c = runs_counted c.self.inside.rows c.self.inside.limit c.self.invariant c.free.result c.free.ensures
    ∙ ap (λ (t : LockTable). runs t.marking) c.self.view_is
