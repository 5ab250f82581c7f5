use Rattle.std.proofs.Common.{ap, ◌∙◌}
use Rattle.std.specs.Option.{option_map}
use Rattle.fl_marks.specs.Blocker.{blocker}
use Rattle.fl_ranges.specs.LockTable.{LockTable}
use Rattle.fl_ranges.specs.Inside.Nearest.{lock_of}
use Rattle.fl_ranges.specs.Layout.{table_runs}
use Rattle.fl_ranges.proofs.BlockersRuns.{blocker_of_runs}
use Rattle.fl_ranges.proofs.TableCalls.{table_apart}
use Rattle.fl_ranges.proofs.table.Table.blocker.Goals as goal

pub returns : goal.returns
returns c =
    let key = c.args.key.now in
    let range = c.args.range.now in
    c.lock_of.ensures
    ∙ ap (option_map lock_of) c.nearest.ensures
    ∙ blocker_of_runs key range.start range.end c.args.kind (table_runs c.self.inside.rows)
    (table_apart c.self.inside.rows c.self.inside.limit c.self.invariant) range.ordered range.in_range
    ∙ ap (λ (t : LockTable). blocker t.marking key range.start range.end c.args.kind) c.self.view_is
