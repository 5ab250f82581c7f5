use Rattle.std.proofs.Common.{arith}
use Rattle.fl_arena.proofs.CallLemmas.{spells_value, end_read, within_slots}
use Rattle.fl_arena.proofs.chains.Arena.cursor.Goals as goal

pub returns-clause-in_range : goal.returns-clause-in_range
returns-clause-in_range g c =
    let spells = spells_value _ _ _ _ _ c.self.invariant c.self.view_is in
    let found = end_read c.self.inside.ends.items c.args.chain c.index.result.now (let chains = spells.chains in omega arith) c.index.ensures in
    within_slots _ _ _ _ _ spells c.args.chain 0 _ (spells.each c.args.chain c.index.result.now found).first
