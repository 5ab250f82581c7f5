use Rattle.std.proofs.Common.{Some, arith, ◌<◌, ap, ◌∙◌, length, refl}
use Rattle.fl_arena.specs.Inside.Links.{alter, with_links, relinked}
use Rattle.fl_arena.proofs.LinkLemmas.{as_long}
use Rattle.fl_arena.proofs.NodeLemmas.{IsWithin-same, alter_link-read}
use Rattle.fl_arena.proofs.nodes.link_over.Goals as goal
use Rattle.fl_arena.proofs.nodes.link_over.Goals.{After-relink-2}

pub relink-requires-2-clause-before : goal.relink-requires-2-clause-before
relink-requires-2-clause-before g c =
    IsWithin-same c.args.nodes.now.items c.relink.new.nodes.items c.args.new.0 (as_long _ _ _ _ _ _ c.relink.ensures) c.requires.new_before

pub relink-requires-2-clause-after : goal.relink-requires-2-clause-after
relink-requires-2-clause-after g c =
    IsWithin-same c.args.nodes.now.items c.relink.new.nodes.items c.args.new.1 (as_long _ _ _ _ _ _ c.relink.ensures) c.requires.new_after

-- the slot is still one of the nodes
there : (g : _) (c : After-relink-2 g) → c.args.slot < length c.relink-2.new.nodes.items
there g c =
    let first = as_long c.args.nodes.now.items c.relink.new.nodes.items _ _ _ _ c.relink.ensures in
    let second = as_long c.relink.new.nodes.items c.relink-2.new.nodes.items _ _ _ _ c.relink-2.ensures in
    omega (arith, c.requires.slot)

pub index_mut-requires : goal.index_mut-requires
index_mut-requires g c =
    let within = there g (goal.at.index_mut-requires g c).After-relink-2 in
    let ok = c.relink-2.new.nodes.ok.0 in
    omega arith

pub returns : goal.returns
returns g c =
    let within = there g (goal.at.returns g c).After-relink-2 in
    rw c.set_links.ensures (alter_link-read (with_links c.args.chain c.args.new.0 c.args.new.1) c.relink-2.new.nodes.items (Some c.args.slot) c.args.slot
    c.from.result c.index_mut.result.now refl c.from.ensures within c.index_mut.ensures.value)
    ∙ ap (λ nodes. alter (with_links c.args.chain c.args.new.0 c.args.new.1) nodes c.args.slot) (c.relink-2.ensures
    ∙ ap (λ nodes. relinked nodes c.args.new.0 c.args.new.1 (Some c.args.slot) (Some c.args.slot)) c.relink.ensures)
