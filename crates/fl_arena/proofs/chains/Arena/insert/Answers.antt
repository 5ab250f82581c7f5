use Rattle.std.proofs.Common.{◌-◌, ℕ, Some, set, sym, ap, ◌∙◌, subst, arith}
use Rattle.std.specs.List.{insert}
use Rattle.std.proofs.lemmas.Option.{slice_get_within}
use Rattle.fl_arena.specs.Chains.{entries, items, with_entries}
use Rattle.fl_arena.specs.Cursors.{cursor_at, index_of}
use Rattle.fl_arena.specs.Inside.Links.{Spells}
use Rattle.fl_arena.proofs.ChainLaws.{HasSizeOf-with, items-insert, entries-with_other, inserted_at}
use Rattle.fl_arena.proofs.CursorLemmas.{linked_within, before_within}
use Rattle.fl_arena.proofs.InsertLemmas.{unused_slot}
use Rattle.fl_arena.proofs.WalkLemmas.{spelled_is}
use Rattle.fl_arena.proofs.CallLemmas.{spells_value, spells_own, end_read, inserted, stands, spare_is_free, room}
use Rattle.fl_arena.proofs.CallLemmas.{cursor_at_new}
use Rattle.fl_arena.proofs.CountLemmas.{linked_once}
use Rattle.fl_arena.proofs.chains.Arena.insert.Goals as goal
use Rattle.fl_arena.proofs.chains.Arena.insert.Goals.{After-with}

pub next_free-self-inside-requires : goal.next_free-self-inside-requires
next_free-self-inside-requires g c =
    spare_is_free _ _ c.self.inside.free c.in-Some.slot c.in-Some.is c.self.invariant.free_list

pub link_in-requires-clause-slot : goal.link_in-requires-clause-slot
link_in-requires-clause-slot g c = slice_get_within c.self.inside.nodes.items c.in-Some.slot _ c.next_free-self-inside.ensures

pub link_in-requires-clause-before : goal.link_in-requires-clause-before
link_in-requires-clause-before g c =
    let spells = spells_value _ _ _ _ _ c.self.invariant c.self.view_is in
    rw c.spot_before-previous.ensures.previous (before_within _ _ _ _ _ spells c.args.cursor.now.chain (index_of c.args.self.now c.args.cursor.now))

pub link_in-requires-clause-after : goal.link_in-requires-clause-after
link_in-requires-clause-after g c =
    let spells = spells_value _ _ _ _ _ c.self.invariant c.self.view_is in
    let here = stands _ _ _ _ _ spells c.args.cursor.now c.requires.in_place c.requires.chain in
    rw here.0 (linked_within _ _ _ _ _ spells c.args.cursor.now.chain (index_of c.args.self.now c.args.cursor.now))

pub with-requires : goal.with-requires
with-requires g c =
    let spells = spells_value _ _ _ _ _ c.self.invariant c.self.view_is in
    let found = end_read c.self.inside.ends.items c.args.cursor.now.chain c.index-ends.result.now
    (let chains = spells.chains in let within = c.requires.chain in omega arith) c.index-ends.ensures in
    room _ _ _ _ _ spells c.args.cursor.now.chain _ c.in-Some.slot found c.in-Some.is

-- the links once the slot is on its chain
after : (g : _) (c : After-with g) →
    Spells c.link_in.new.nodes.items (set c.self.inside.ends.items c.args.cursor.now.chain c.with.result) c.next_free-self-inside.result
    (c.self.inside.free - 1) (with_entries c.args.self.now c.args.cursor.now.chain (insert (entries c.args.self.now c.args.cursor.now.chain)
    (index_of c.args.self.now c.args.cursor.now) (record { slot = c.in-Some.slot; item = c.args.item })))
after g c =
    let spells = spells_value _ _ _ _ _ c.self.invariant c.self.view_is in
    let found = end_read c.self.inside.ends.items c.args.cursor.now.chain c.index-ends.result.now
    (let chains = spells.chains in let within = c.requires.chain in omega arith) c.index-ends.ensures in
    let here = stands _ _ _ _ _ spells c.args.cursor.now c.requires.in_place c.requires.chain in
    inserted _ _ _ _ _ _ _ _ _ _ _ _ _ _
    (subst (λ l. Spells c.self.inside.nodes.items c.self.inside.ends.items l c.self.inside.free c.args.self.now) c.in-Some.is spells)
    c.requires.chain here.1 c.next_free-self-inside.ensures found c.spot_before-previous.ensures.previous here.0 c.link_in.ensures c.with.ensures

pub invariant_of-self : goal.invariant_of-self
invariant_of-self g c =
    spells_own _ _ _ _ _ (after g (goal.at.invariant_of-self g c).After-with)

pub returns-clause-ok : goal.returns-clause-ok
returns-clause-ok g c =
    let spells = spells_value _ _ _ _ _ c.self.invariant c.self.view_is in
    let slots = spells.slots in
    record {
      slot = c.in-Some.slot;
      in_range = omega (arith, slice_get_within c.self.inside.nodes.items c.in-Some.slot _ c.next_free-self-inside.ensures);
      was_free = unused_slot _ _ _ _ _ spells c.in-Some.slot _ c.next_free-self-inside.ensures;
      chains = spelled_is _ _ _ _ _ (after g (goal.at.returns-clause-ok g c).After-with);
      cursor = ap (λ (i : ℕ). record { chain = c.args.cursor.now.chain; index = i; slot = Some c.in-Some.slot }) c.spot_before-previous.ensures.index;
    }

pub returns-clause-items : goal.returns-clause-items
returns-clause-items g c =
    ap (λ x. items x c.args.cursor.now.chain) (spelled_is _ _ _ _ _ (after g (goal.at.returns-clause-items g c).After-with))
    ∙ items-insert c.args.self.now c.args.cursor.now.chain (index_of c.args.self.now c.args.cursor.now) (record { slot = c.in-Some.slot; item = c.args.item })
    c.requires.chain

pub returns-clause-others : goal.returns-clause-others
returns-clause-others g c d apart =
    ap (λ x. entries x d) (spelled_is _ _ _ _ _ (after g (goal.at.returns-clause-others g c).After-with))
    ∙ entries-with_other c.args.self.now c.args.cursor.now.chain d (insert (entries c.args.self.now c.args.cursor.now.chain)
    (index_of c.args.self.now c.args.cursor.now) (record { slot = c.in-Some.slot; item = c.args.item })) apart

pub returns-clause-cursor : goal.returns-clause-cursor
returns-clause-cursor g c =
    let spells = spells_value _ _ _ _ _ c.self.invariant c.self.view_is in
    let within = (stands _ _ _ _ _ spells c.args.cursor.now c.requires.in_place c.requires.chain).1 in
    ap (λ (i : ℕ). record { chain = c.args.cursor.now.chain; index = i; slot = Some c.in-Some.slot }) c.spot_before-previous.ensures.index
    ∙ (cursor_at_new c.args.self.now c.args.cursor.now.chain (index_of c.args.self.now c.args.cursor.now) (record { slot = c.in-Some.slot; item = c.args.item })
    c.requires.chain within
    ∙ ap (λ x. cursor_at x c.args.cursor.now.chain (index_of c.args.self.now c.args.cursor.now))
    (sym (spelled_is _ _ _ _ _ (after g (goal.at.returns-clause-cursor g c).After-with))))

pub returns-clause-size : goal.returns-clause-size
returns-clause-size g c =
    HasSizeOf-with c.args.self.now _ c.args.cursor.now.chain _ (spelled_is _ _ _ _ _ (after g (goal.at.returns-clause-size g c).After-with))

pub returns-clause-at_index : goal.returns-clause-at_index
returns-clause-at_index g c d i at =
    ap (λ x. items x d) (spelled_is _ _ _ _ _ (after g (goal.at.returns-clause-at_index g c).After-with))
    ∙ inserted_at c.args.self.now d i c.args.cursor.now (record { slot = c.in-Some.slot; item = c.args.item }) at c.requires.chain

pub returns-clause-linked : goal.returns-clause-linked
returns-clause-linked g c = linked_once _ _ _ _ _ (spells_own _ _ _ _ _ (after g (goal.at.returns-clause-linked g c).After-with))

pub returns-in_default-clause-linked : goal.returns-in_default-clause-linked
returns-in_default-clause-linked g c = linked_once _ _ _ _ _ (spells_value _ _ _ _ _ c.self.invariant c.self.view_is)
