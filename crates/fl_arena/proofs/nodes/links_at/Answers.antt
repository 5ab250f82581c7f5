use Rattle.fl_arena.proofs.HeldLemmas.{links_read}
use Rattle.fl_arena.proofs.nodes.links_at.Goals as goal

pub returns : goal.returns
returns g c =
    links_read c.args.nodes.now.items c.args.slot c.from.result c.index-node.result.now _ _ _ _ c.requires c.from.ensures c.index-node.ensures c.node.view_is
