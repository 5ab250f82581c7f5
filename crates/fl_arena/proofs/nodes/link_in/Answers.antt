use Rattle.std.proofs.Common.{Some, arith}
use Rattle.fl_arena.proofs.LinkLemmas.{as_long}
use Rattle.fl_arena.proofs.nodes.link_in.Goals as goal

pub index_mut-requires : goal.index_mut-requires
index_mut-requires g c =
    let same = as_long c.args.nodes.now.items c.relink.new.nodes.items c.args.member.previous c.args.member.next (Some c.args.slot) (Some c.args.slot)
    c.relink.ensures in
    let ok = c.relink.new.nodes.ok.0 in
    omega (arith, c.requires.slot)
