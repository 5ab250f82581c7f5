use Rattle.std.proofs.Common.{suc, refl, arith}
use Rattle.fl_arena.proofs.PlaceLemmas.{linked_at}
use Rattle.fl_arena.proofs.CursorLemmas.{is_at, is_taken, slot_there}
use Rattle.fl_arena.proofs.ChainLaws.{stepped_at}
use Rattle.fl_arena.proofs.CallLemmas.{spells_value, stepped, within_slots}
use Rattle.fl_arena.proofs.chains.Arena.step.Goals as goal

pub overflow_add-cursor : goal.overflow_add-cursor
overflow_add-cursor g c =
    let spells = spells_value _ _ _ _ _ c.self.invariant c.self.view_is in
    let there = slot_there c.args.self.now c.args.cursor.now _ c.in-Some.is c.requires in
    let at = linked_at _ _ _ _ _ spells _ _ _ there in
    let place = is_at _ _ _ _ _ spells _ _ _ _ there at.linked in
    let within = place.in_chain in
    let small = place.small in
    omega arith

pub links_at-requires : goal.links_at-requires
links_at-requires g c =
    let spells = spells_value _ _ _ _ _ c.self.invariant c.self.view_is in
    is_taken _ _ _ _ _ spells _ _ _ (slot_there c.args.self.now c.args.cursor.now _ c.in-Some.is c.requires)

pub returns-in-Some-clause-on : goal.returns-in-Some-clause-on
returns-in-Some-clause-on g c _ =
    let spells = spells_value _ _ _ _ _ c.self.invariant c.self.view_is in
    stepped _ _ _ _ _ spells c.args.cursor.now c.requires _ _ c.in-Some.is c.links_at.ensures.read

pub returns-in-Some-clause-in_range : goal.returns-in-Some-clause-in_range
returns-in-Some-clause-in_range g c =
    let spells = spells_value _ _ _ _ _ c.self.invariant c.self.view_is in
    let there = slot_there c.args.self.now c.args.cursor.now _ c.in-Some.is c.requires in
    let place = is_at _ _ _ _ _ spells _ _ _ _ there c.links_at.ensures.read in
    within_slots _ _ _ _ _ spells c.args.cursor.now.chain (suc c.args.cursor.now.index) _ place.next

pub returns-in-Some-clause-at_index : goal.returns-in-Some-clause-at_index
returns-in-Some-clause-at_index g c d i _ here =
    stepped_at c.args.self.now d i c.args.cursor.now _ here (returns-in-Some-clause-on g c (rw c.in-Some.is refl))
