use Rattle.fl_ranges.proofs.Places.{run_on, run_free}
use Rattle.fl_ranges.proofs.table.Table.slot_place.Goals as goal

pub returns-clause-on : goal.returns-clause-on
returns-clause-on c chain index is =
    run_on c.self.inside.rows c.self.inside.limit c.self.invariant index (c.slot_place.ensures.on chain index is) c.args.self.now c.self.view_is

pub returns-clause-free : goal.returns-clause-free
returns-clause-free c is = run_free c.self.inside.rows c.self.inside.limit c.self.invariant (c.slot_place.ensures.free is) c.args.self.now c.self.view_is
