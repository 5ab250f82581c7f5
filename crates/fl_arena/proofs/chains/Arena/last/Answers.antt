use Rattle.std.proofs.Common.{arith}
use Rattle.fl_arena.proofs.CallLemmas.{spells_value, end_read, within_slots, last_read, last_slot}
use Rattle.fl_arena.proofs.chains.Arena.last.Goals as goal

pub returns-clause-last : goal.returns-clause-last
returns-clause-last g c =
    let spells = spells_value _ _ _ _ _ c.self.invariant c.self.view_is in
    let found = end_read c.self.inside.ends.items c.args.chain c.index-ends.result.now (let chains = spells.chains in omega arith) c.index-ends.ensures in
    last_read _ _ _ _ _ spells c.args.chain c.index-ends.result.now found c.saturating_sub.result c.saturating_sub.ensures

pub returns-clause-in_range : goal.returns-clause-in_range
returns-clause-in_range g c =
    let spells = spells_value _ _ _ _ _ c.self.invariant c.self.view_is in
    let found = end_read c.self.inside.ends.items c.args.chain c.index-ends.result.now (let chains = spells.chains in omega arith) c.index-ends.ensures in
    within_slots _ _ _ _ _ spells c.args.chain _ _ (last_slot _ _ _ _ _ spells c.args.chain c.index-ends.result.now found)
