use Rattle.std.proofs.Common.{arith}
use Rattle.fl_arena.proofs.CursorLemmas.{is_taken, slot_there}
use Rattle.fl_arena.proofs.CallLemmas.{spells_value, end_read, place_before, place_last}
use Rattle.fl_arena.proofs.chains.Arena.spot_before.Goals as goal

pub links_at-requires : goal.links_at-requires
links_at-requires g c =
    let spells = spells_value _ _ _ _ _ c.self.invariant c.self.view_is in
    is_taken _ _ _ _ _ spells _ _ _ (slot_there c.args.self.now c.args.cursor.now _ c.in-Some.is c.requires.in_place)

pub returns-in-Some-clause-previous : goal.returns-in-Some-clause-previous
returns-in-Some-clause-previous g c =
    let spells = spells_value _ _ _ _ _ c.self.invariant c.self.view_is in
    (place_before _ _ _ _ _ spells c.args.cursor.now c.requires.in_place _ _ c.in-Some.is c.links_at.ensures.read).0

pub returns-in-None-clause-previous : goal.returns-in-None-clause-previous
returns-in-None-clause-previous g c =
    let spells = spells_value _ _ _ _ _ c.self.invariant c.self.view_is in
    let chains = spells.chains in
    let in_chains = c.requires.chain in
    let found = end_read c.self.inside.ends.items c.args.cursor.now.chain c.index-ends.result.now (omega arith) c.index-ends.ensures in
    (place_last _ _ _ _ _ spells c.args.cursor.now c.requires.in_place _ c.in-None.is found).0

pub returns-in-None-clause-index : goal.returns-in-None-clause-index
returns-in-None-clause-index g c =
    let spells = spells_value _ _ _ _ _ c.self.invariant c.self.view_is in
    let chains = spells.chains in
    let in_chains = c.requires.chain in
    let found = end_read c.self.inside.ends.items c.args.cursor.now.chain c.index-ends.result.now (omega arith) c.index-ends.ensures in
    (place_last _ _ _ _ _ spells c.args.cursor.now c.requires.in_place _ c.in-None.is found).1
