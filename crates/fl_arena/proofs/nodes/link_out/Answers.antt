use Rattle.std.proofs.Common.{arith}
use Rattle.fl_arena.proofs.LinkLemmas.{as_long}
use Rattle.fl_arena.proofs.nodes.link_out.Goals as goal

pub index_mut-requires : goal.index_mut-requires
index_mut-requires g c =
    let same = as_long c.args.nodes.now.items c.relink.new.nodes.items c.args.links.0 c.args.links.1 c.args.links.0 c.args.links.1
    c.relink.ensures in
    let ok = c.relink.new.nodes.ok.0 in
    omega (arith, c.requires.slot)
