use Rattle.std.proofs.Common.{sym, ap, subst, ◌<◌}
use Rattle.fl_ranges.specs.LockTable.{LockTable}
use Rattle.fl_ranges.proofs.Places.{head_on}
use Rattle.fl_ranges.proofs.table.Table.head_place.Goals as goal

pub returns-clause-on : goal.returns-clause-on
returns-clause-on c chain index is below =
    head_on c.self.inside.rows c.self.inside.limit c.self.invariant chain index
    (c.head_place.ensures.on chain index is (subst (λ n. chain < n) (sym (ap (λ (t : LockTable). t.chains) c.self.view_is)) below)) c.args.self.now c.self.view_is
