use Rattle.fl_arena.proofs.HeldLemmas.{item_read}
use Rattle.fl_arena.proofs.nodes.item_at.Goals as goal

pub returns : goal.returns
returns g c =
    item_read c.args.nodes.now.items c.args.slot c.from.result c.index.result.now _ _ _ c.in-Filled.item c.requires c.from.ensures c.index.ensures
    (rw c.in-Filled.is at c.behind-nodes.view_is)
