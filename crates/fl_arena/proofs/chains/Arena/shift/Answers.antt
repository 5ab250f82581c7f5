use Rattle.std.proofs.Common.{suc, Some, set, sym, ap, ◌∙◌, refl, arith}
use Rattle.std.proofs.lemmas.List.{length-set}
use Rattle.fl_arena.specs.Chains.{entries, items, free_count}
use Rattle.fl_arena.specs.Cursors.{cursor_at, index_of}
use Rattle.fl_arena.specs.Inside.Links.{Spells}
use Rattle.fl_arena.proofs.CursorLemmas.{is_at, is_taken, slot_there, linked_within, before_within}
use Rattle.fl_arena.proofs.WalkLemmas.{spelled_is}
use Rattle.fl_arena.proofs.CallLemmas.{spells_value, spells_own, end_read, stands}
use Rattle.fl_arena.proofs.ShiftLemmas.{over, shifted, room_to_join, moved_entry, items_left, items_joined, joined_at}
use Rattle.fl_arena.proofs.ShiftLemmas.{others_kept, size_kept, from_after, to_after}
use Rattle.fl_arena.proofs.ShiftLemmas.{same_free}
use Rattle.fl_arena.proofs.CountLemmas.{linked_once}
use Rattle.fl_arena.proofs.chains.Arena.shift.Goals as goal
use Rattle.fl_arena.proofs.chains.Arena.shift.Goals.{After-with}

pub links_at-before-requires : goal.links_at-before-requires
links_at-before-requires g c =
    let spells = spells_value _ _ _ _ _ c.self.invariant c.self.view_is in
    is_taken _ _ _ _ _ spells _ _ _ (slot_there c.args.self.now c.args.from.now _ c.in-Some.is c.requires.from)

pub link_over-requires-clause-slot : goal.link_over-requires-clause-slot
link_over-requires-clause-slot g c =
    let spells = spells_value _ _ _ _ _ c.self.invariant c.self.view_is in
    let there = slot_there c.args.self.now c.args.from.now _ c.in-Some.is c.requires.from in
    (is_at _ _ _ _ _ spells _ _ _ _ there c.links_at-before.ensures.read).in_nodes

pub link_over-requires-clause-old_before : goal.link_over-requires-clause-old_before
link_over-requires-clause-old_before g c =
    let spells = spells_value _ _ _ _ _ c.self.invariant c.self.view_is in
    let there = slot_there c.args.self.now c.args.from.now _ c.in-Some.is c.requires.from in
    let at = is_at _ _ _ _ _ spells _ _ _ _ there c.links_at-before.ensures.read in
    rw at.previous (before_within _ _ _ _ _ spells c.args.from.now.chain c.args.from.now.index)

pub link_over-requires-clause-old_after : goal.link_over-requires-clause-old_after
link_over-requires-clause-old_after g c =
    let spells = spells_value _ _ _ _ _ c.self.invariant c.self.view_is in
    let there = slot_there c.args.self.now c.args.from.now _ c.in-Some.is c.requires.from in
    let at = is_at _ _ _ _ _ spells _ _ _ _ there c.links_at-before.ensures.read in
    rw at.next (linked_within _ _ _ _ _ spells c.args.from.now.chain (suc c.args.from.now.index))

pub link_over-requires-clause-new_before : goal.link_over-requires-clause-new_before
link_over-requires-clause-new_before g c =
    let spells = spells_value _ _ _ _ _ c.self.invariant c.self.view_is in
    rw c.spot_before-previous.ensures.previous (before_within _ _ _ _ _ spells c.args.to.now.chain (index_of c.args.self.now c.args.to.now))

pub link_over-requires-clause-new_after : goal.link_over-requires-clause-new_after
link_over-requires-clause-new_after g c =
    let spells = spells_value _ _ _ _ _ c.self.invariant c.self.view_is in
    let here = stands _ _ _ _ _ spells c.args.to.now c.requires.to c.requires.chain in
    rw here.0 (linked_within _ _ _ _ _ spells c.args.to.now.chain (index_of c.args.self.now c.args.to.now))

pub without-requires : goal.without-requires
without-requires g c =
    let spells = spells_value _ _ _ _ _ c.self.invariant c.self.view_is in
    let there = slot_there c.args.self.now c.args.from.now _ c.in-Some.is c.requires.from in
    let at = is_at _ _ _ _ _ spells _ _ _ _ there c.links_at-before.ensures.read in
    let found = end_read c.self.inside.ends.items c.args.from.now.chain c.index.result.now
    (let chains = spells.chains in let within = at.in_chains in omega arith) c.index.ensures in
    let long = (spells.each c.args.from.now.chain c.index.result.now found).len in
    let some = at.in_chain in
    omega arith

pub with-requires : goal.with-requires
with-requires g c =
    let spells = spells_value _ _ _ _ _ c.self.invariant c.self.view_is in
    let there = slot_there c.args.self.now c.args.from.now _ c.in-Some.is c.requires.from in
    let at = is_at _ _ _ _ _ spells _ _ _ _ there c.links_at-before.ensures.read in
    let here = stands _ _ _ _ _ spells c.args.to.now c.requires.to c.requires.chain in
    let found = end_read c.self.inside.ends.items c.args.from.now.chain c.index.result.now
    (let chains = spells.chains in let within = at.in_chains in omega arith) c.index.ensures in
    let other = end_read (set c.self.inside.ends.items c.args.from.now.chain c.without.result) c.args.to.now.chain c.index-2.result.now
    (let chains = spells.chains in let within = c.requires.chain in omega (arith, length-set c.self.inside.ends.items c.args.from.now.chain c.without.result))
    c.index-2.ensures in
    room_to_join _ _ _ _ _ spells _ _ _ _ _ _ there c.links_at-before.ensures.read c.requires.apart c.requires.chain here.1 _ _ _ _ _ found at.previous at.next
    c.without.ensures other

-- the links once the slot is on its new chain
after : (g : _) (c : After-with g) →
    Spells c.link_over.new.nodes.items
    (set (set c.self.inside.ends.items c.args.from.now.chain c.without.result) c.args.to.now.chain c.with.result)
    c.self.inside.spare c.self.inside.free
    (over c.args.self.now c.args.from.now.chain c.args.from.now.index c.args.to.now.chain (index_of c.args.self.now c.args.to.now)
    (record { slot = c.in-Some.slot; item = c.links_at-before.ensures.item }))
after g c =
    let spells = spells_value _ _ _ _ _ c.self.invariant c.self.view_is in
    let there = slot_there c.args.self.now c.args.from.now _ c.in-Some.is c.requires.from in
    let at = is_at _ _ _ _ _ spells _ _ _ _ there c.links_at-before.ensures.read in
    let here = stands _ _ _ _ _ spells c.args.to.now c.requires.to c.requires.chain in
    let found = end_read c.self.inside.ends.items c.args.from.now.chain c.index.result.now
    (let chains = spells.chains in let within = at.in_chains in omega arith) c.index.ensures in
    let other = end_read (set c.self.inside.ends.items c.args.from.now.chain c.without.result) c.args.to.now.chain c.index-2.result.now
    (let chains = spells.chains in let within = c.requires.chain in omega (arith, length-set c.self.inside.ends.items c.args.from.now.chain c.without.result))
    c.index-2.ensures in
    shifted _ _ _ _ _ spells _ _ _ _ _ _ there c.links_at-before.ensures.read c.requires.apart c.requires.chain here.1 _ _ _ _ _ _ _ _ _ found at.previous at.next
    c.without.ensures other c.spot_before-previous.ensures.previous here.0 c.with.ensures c.link_over.ensures

pub invariant_of-self : goal.invariant_of-self
invariant_of-self g c = spells_own _ _ _ _ _ (after g (goal.at.invariant_of-self g c).After-with)

pub returns-clause-chains : goal.returns-clause-chains
returns-clause-chains g c =
    let spells = spells_value _ _ _ _ _ c.self.invariant c.self.view_is in
    let there = slot_there c.args.self.now c.args.from.now _ c.in-Some.is c.requires.from in
    let here = stands _ _ _ _ _ spells c.args.to.now c.requires.to c.requires.chain in
    record {
      moved = record { slot = c.in-Some.slot; item = c.links_at-before.ensures.item };
      was_there = moved_entry _ _ _ _ _ spells _ _ _ _ _ _ there c.links_at-before.ensures.read c.requires.apart c.requires.chain here.1;
      chains = spelled_is _ _ _ _ _ (after g (goal.at.returns-clause-chains g c).After-with);
    }

pub returns-clause-left : goal.returns-clause-left
returns-clause-left g c =
    let spells = spells_value _ _ _ _ _ c.self.invariant c.self.view_is in
    let there = slot_there c.args.self.now c.args.from.now _ c.in-Some.is c.requires.from in
    let here = stands _ _ _ _ _ spells c.args.to.now c.requires.to c.requires.chain in
    ap (λ x. items x c.args.from.now.chain) (spelled_is _ _ _ _ _ (after g (goal.at.returns-clause-left g c).After-with))
    ∙ items_left _ _ _ _ _ spells _ _ _ _ _ _ there c.links_at-before.ensures.read c.requires.apart c.requires.chain here.1

pub returns-clause-joined : goal.returns-clause-joined
returns-clause-joined g c item found =
    let spells = spells_value _ _ _ _ _ c.self.invariant c.self.view_is in
    let there = slot_there c.args.self.now c.args.from.now _ c.in-Some.is c.requires.from in
    let here = stands _ _ _ _ _ spells c.args.to.now c.requires.to c.requires.chain in
    ap (λ x. items x c.args.to.now.chain) (spelled_is _ _ _ _ _ (after g (goal.at.returns-clause-joined g c).After-with))
    ∙ items_joined _ _ _ _ _ spells _ _ _ _ _ _ there c.links_at-before.ensures.read c.requires.apart c.requires.chain here.1 item found

pub returns-clause-at_index : goal.returns-clause-at_index
returns-clause-at_index g c d i item at found =
    let spells = spells_value _ _ _ _ _ c.self.invariant c.self.view_is in
    let there = slot_there c.args.self.now c.args.from.now _ c.in-Some.is c.requires.from in
    let here = stands _ _ _ _ _ spells c.args.to.now c.requires.to c.requires.chain in
    ap (λ x. items x d) (spelled_is _ _ _ _ _ (after g (goal.at.returns-clause-at_index g c).After-with))
    ∙ joined_at _ _ _ _ _ spells _ _ _ _ _ _ there c.links_at-before.ensures.read c.requires.apart c.requires.chain here.1 c.args.to.now d i item at refl refl
    found

pub returns-clause-others : goal.returns-clause-others
returns-clause-others g c b not_from not_to =
    let spells = spells_value _ _ _ _ _ c.self.invariant c.self.view_is in
    let there = slot_there c.args.self.now c.args.from.now _ c.in-Some.is c.requires.from in
    let here = stands _ _ _ _ _ spells c.args.to.now c.requires.to c.requires.chain in
    ap (λ x. entries x b) (spelled_is _ _ _ _ _ (after g (goal.at.returns-clause-others g c).After-with))
    ∙ others_kept _ _ _ _ _ spells _ _ _ _ _ _ there c.links_at-before.ensures.read c.requires.apart c.requires.chain here.1 b not_from not_to

pub returns-clause-size : goal.returns-clause-size
returns-clause-size g c =
    let spells = spells_value _ _ _ _ _ c.self.invariant c.self.view_is in
    let there = slot_there c.args.self.now c.args.from.now _ c.in-Some.is c.requires.from in
    let here = stands _ _ _ _ _ spells c.args.to.now c.requires.to c.requires.chain in
    rw (spelled_is _ _ _ _ _ (after g (goal.at.returns-clause-size g c).After-with))
    (size_kept _ _ _ _ _ spells _ _ _ _ _ _ there c.links_at-before.ensures.read c.requires.apart c.requires.chain here.1)

pub returns-clause-free : goal.returns-clause-free
returns-clause-free g c =
    let spells = spells_value _ _ _ _ _ c.self.invariant c.self.view_is in
    let now = after g (goal.at.returns-clause-free g c).After-with in
    ap free_count (spelled_is _ _ _ _ _ now) ∙ same_free _ _ _ _ _ _ _ _ _ spells now refl

pub returns-clause-from_cursor : goal.returns-clause-from_cursor
returns-clause-from_cursor g c =
    let spells = spells_value _ _ _ _ _ c.self.invariant c.self.view_is in
    let there = slot_there c.args.self.now c.args.from.now _ c.in-Some.is c.requires.from in
    let at = is_at _ _ _ _ _ spells _ _ _ _ there c.links_at-before.ensures.read in
    let here = stands _ _ _ _ _ spells c.args.to.now c.requires.to c.requires.chain in
    from_after _ _ _ _ _ spells _ _ _ _ _ _ there c.links_at-before.ensures.read c.requires.apart c.requires.chain here.1 c.links_at-before.result.1 at.next
    ∙ ap (λ x. cursor_at x c.args.from.now.chain c.args.from.now.index)
    (sym (spelled_is _ _ _ _ _ (after g (goal.at.returns-clause-from_cursor g c).After-with)))

pub returns-clause-to_cursor : goal.returns-clause-to_cursor
returns-clause-to_cursor g c =
    let spells = spells_value _ _ _ _ _ c.self.invariant c.self.view_is in
    let there = slot_there c.args.self.now c.args.from.now _ c.in-Some.is c.requires.from in
    let here = stands _ _ _ _ _ spells c.args.to.now c.requires.to c.requires.chain in
    ap (λ i. record { chain = c.args.to.now.chain; index = i; slot = Some c.in-Some.slot }) c.spot_before-previous.ensures.index
    ∙ (to_after _ _ _ _ _ spells _ _ _ _ _ _ there c.links_at-before.ensures.read c.requires.apart c.requires.chain here.1
    ∙ ap (λ x. cursor_at x c.args.to.now.chain (index_of c.args.self.now c.args.to.now))
    (sym (spelled_is _ _ _ _ _ (after g (goal.at.returns-clause-to_cursor g c).After-with))))

pub returns-clause-linked : goal.returns-clause-linked
returns-clause-linked g c = linked_once _ _ _ _ _ (spells_own _ _ _ _ _ (after g (goal.at.returns-clause-linked g c).After-with))
