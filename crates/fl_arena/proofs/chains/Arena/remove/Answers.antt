use Rattle.std.proofs.Common.{◌+◌, suc, Some, set, sym, ap, ◌∙◌, arith}
use Rattle.std.specs.List.{remove}
use Rattle.fl_arena.specs.Chains.{entries, items, with_entries}
use Rattle.fl_arena.specs.Cursors.{cursor_at}
use Rattle.fl_arena.specs.Inside.Links.{Spells}
use Rattle.fl_arena.proofs.ChainLaws.{HasSizeOf-with, items-remove, entries-with_other}
use Rattle.fl_arena.proofs.CursorLemmas.{is_at, is_taken, slot_there, linked_within, before_within}
use Rattle.fl_arena.proofs.WalkLemmas.{spelled_is}
use Rattle.fl_arena.proofs.CallLemmas.{spells_value, spells_own, end_read, removed, cursor_after}
use Rattle.fl_arena.proofs.CountLemmas.{linked_once}
use Rattle.fl_arena.proofs.chains.Arena.remove.Goals as goal
use Rattle.fl_arena.proofs.chains.Arena.remove.Goals.{After-without}

pub links_at-before-requires : goal.links_at-before-requires
links_at-before-requires g c =
    let spells = spells_value _ _ _ _ _ c.self.invariant c.self.view_is in
    is_taken _ _ _ _ _ spells _ _ _ (slot_there c.args.self.now c.args.cursor.now _ c.in-Some.is c.requires.in_place)

pub link_out-requires-clause-slot : goal.link_out-requires-clause-slot
link_out-requires-clause-slot g c =
    let spells = spells_value _ _ _ _ _ c.self.invariant c.self.view_is in
    let there = slot_there c.args.self.now c.args.cursor.now _ c.in-Some.is c.requires.in_place in
    (is_at _ _ _ _ _ spells _ _ _ _ there c.links_at-before.ensures.read).in_nodes

pub link_out-requires-clause-before : goal.link_out-requires-clause-before
link_out-requires-clause-before g c =
    let spells = spells_value _ _ _ _ _ c.self.invariant c.self.view_is in
    let there = slot_there c.args.self.now c.args.cursor.now _ c.in-Some.is c.requires.in_place in
    let at = is_at _ _ _ _ _ spells _ _ _ _ there c.links_at-before.ensures.read in
    rw at.previous (before_within _ _ _ _ _ spells c.args.cursor.now.chain c.args.cursor.now.index)

pub link_out-requires-clause-after : goal.link_out-requires-clause-after
link_out-requires-clause-after g c =
    let spells = spells_value _ _ _ _ _ c.self.invariant c.self.view_is in
    let there = slot_there c.args.self.now c.args.cursor.now _ c.in-Some.is c.requires.in_place in
    let at = is_at _ _ _ _ _ spells _ _ _ _ there c.links_at-before.ensures.read in
    rw at.next (linked_within _ _ _ _ _ spells c.args.cursor.now.chain (suc c.args.cursor.now.index))

pub without-requires : goal.without-requires
without-requires g c =
    let spells = spells_value _ _ _ _ _ c.self.invariant c.self.view_is in
    let there = slot_there c.args.self.now c.args.cursor.now _ c.in-Some.is c.requires.in_place in
    let at = is_at _ _ _ _ _ spells _ _ _ _ there c.links_at-before.ensures.read in
    let found = end_read c.self.inside.ends.items c.args.cursor.now.chain c.index-ends.result.now
    (let chains = spells.chains in let within = at.in_chains in omega arith) c.index-ends.ensures in
    let long = (spells.each c.args.cursor.now.chain c.index-ends.result.now found).len in
    let some = at.in_chain in
    omega arith

-- the links once the slot is off its chain
after : (g : _) (c : After-without g) →
    Spells c.link_out.new.nodes.items (set c.self.inside.ends.items c.args.cursor.now.chain c.without.result) (Some c.in-Some.slot) (c.self.inside.free + 1)
    (with_entries c.args.self.now c.args.cursor.now.chain (remove (entries c.args.self.now c.args.cursor.now.chain) c.args.cursor.now.index))
after g c =
    let spells = spells_value _ _ _ _ _ c.self.invariant c.self.view_is in
    let there = slot_there c.args.self.now c.args.cursor.now _ c.in-Some.is c.requires.in_place in
    let at = is_at _ _ _ _ _ spells _ _ _ _ there c.links_at-before.ensures.read in
    let found = end_read c.self.inside.ends.items c.args.cursor.now.chain c.index-ends.result.now
    (let chains = spells.chains in let within = at.in_chains in omega arith) c.index-ends.ensures in
    removed _ _ _ _ _ _ _ _ _ _ _ _ _ spells there at.in_nodes at.in_chains at.in_chain found at.previous at.next c.link_out.ensures c.without.ensures

pub invariant_of-self : goal.invariant_of-self
invariant_of-self g c = spells_own _ _ _ _ _ (after g (goal.at.invariant_of-self g c).After-without)

pub returns-clause-value : goal.returns-clause-value
returns-clause-value g c =
    let spells = spells_value _ _ _ _ _ c.self.invariant c.self.view_is in
    let there = slot_there c.args.self.now c.args.cursor.now _ c.in-Some.is c.requires.in_place in
    (is_at _ _ _ _ _ spells _ _ _ _ there c.item_at-item.ensures.read).item

pub returns-clause-chains : goal.returns-clause-chains
returns-clause-chains g c = spelled_is _ _ _ _ _ (after g (goal.at.returns-clause-chains g c).After-without)

pub returns-clause-cursor : goal.returns-clause-cursor
returns-clause-cursor g c =
    let spells = spells_value _ _ _ _ _ c.self.invariant c.self.view_is in
    let there = slot_there c.args.self.now c.args.cursor.now _ c.in-Some.is c.requires.in_place in
    let at = is_at _ _ _ _ _ spells _ _ _ _ there c.links_at-before.ensures.read in
    cursor_after c.args.self.now c.args.cursor.now.chain c.args.cursor.now.index c.links_at-before.result.1 at.in_chains at.next
    ∙ ap (λ x. cursor_at x c.args.cursor.now.chain c.args.cursor.now.index)
    (sym (spelled_is _ _ _ _ _ (after g (goal.at.returns-clause-cursor g c).After-without)))

pub returns-clause-items : goal.returns-clause-items
returns-clause-items g c =
    let spells = spells_value _ _ _ _ _ c.self.invariant c.self.view_is in
    let there = slot_there c.args.self.now c.args.cursor.now _ c.in-Some.is c.requires.in_place in
    let at = is_at _ _ _ _ _ spells _ _ _ _ there c.links_at-before.ensures.read in
    ap (λ x. items x c.args.cursor.now.chain) (spelled_is _ _ _ _ _ (after g (goal.at.returns-clause-items g c).After-without))
    ∙ items-remove c.args.self.now c.args.cursor.now.chain c.args.cursor.now.index at.in_chains

pub returns-clause-others : goal.returns-clause-others
returns-clause-others g c d apart =
    ap (λ x. entries x d) (spelled_is _ _ _ _ _ (after g (goal.at.returns-clause-others g c).After-without))
    ∙ entries-with_other c.args.self.now c.args.cursor.now.chain d (remove (entries c.args.self.now c.args.cursor.now.chain) c.args.cursor.now.index) apart

pub returns-clause-size : goal.returns-clause-size
returns-clause-size g c =
    HasSizeOf-with c.args.self.now _ c.args.cursor.now.chain _ (spelled_is _ _ _ _ _ (after g (goal.at.returns-clause-size g c).After-without))

pub returns-clause-linked : goal.returns-clause-linked
returns-clause-linked g c = linked_once _ _ _ _ _ (spells_own _ _ _ _ _ (after g (goal.at.returns-clause-linked g c).After-without))
