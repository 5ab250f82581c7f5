use Rattle.std.proofs.Common.{◌≡◌, Some, ap, ◌∙◌}
use Rattle.fl_arena.specs.Cursors.{item_of}
use Rattle.fl_arena.proofs.ChainLaws.{item_of-at}
use Rattle.fl_arena.proofs.CursorLemmas.{is_taken, slot_there}
use Rattle.fl_arena.proofs.CallLemmas.{spells_value, got}
use Rattle.fl_arena.proofs.chains.Arena.item.Goals as goal

pub item_at-requires : goal.item_at-requires
item_at-requires g c =
    let spells = spells_value _ _ _ _ _ c.self.invariant c.self.view_is in
    let named : c.args.cursor.now.slot ≡ Some c.in_ok-slot.slot = c.in_ok-slot.was in
    is_taken _ _ _ _ _ spells _ _ _ (slot_there c.args.self.now c.args.cursor.now _ named c.requires)

pub returns-clause-item : goal.returns-clause-item
returns-clause-item g c =
    let spells = spells_value _ _ _ _ _ c.self.invariant c.self.view_is in
    let named : c.args.cursor.now.slot ≡ Some c.in_ok-slot.slot = c.in_ok-slot.was in
    got _ _ _ _ _ spells c.args.cursor.now c.requires _ _ named c.item_at.ensures.read

pub returns-clause-at_index : goal.returns-clause-at_index
returns-clause-at_index g c d i here =
    let spells = spells_value _ _ _ _ _ c.self.invariant c.self.view_is in
    let named : c.args.cursor.now.slot ≡ Some c.in_ok-slot.slot = c.in_ok-slot.was in
    got _ _ _ _ _ spells c.args.cursor.now c.requires _ _ named c.item_at.ensures.read
    ∙ (ap (item_of c.args.self.now) here ∙ item_of-at c.args.self.now d i)
