use Rattle.std.proofs.Common.{◌∙◌, ap, length}
use Rattle.fl_arena.specs.Inside.Links.{with_next}
use Rattle.fl_arena.proofs.LinkLemmas.{length-alter_link}
use Rattle.fl_arena.proofs.NodeLemmas.{IsWithin-same}
use Rattle.fl_arena.proofs.nodes.relink.Goals as goal

pub set_previous-requires : goal.set_previous-requires
set_previous-requires g c =
    let nodes = c.args.nodes.now.items in
    IsWithin-same nodes c.set_next.new.nodes.items c.args.after
    (ap length c.set_next.ensures ∙ length-alter_link (with_next c.args.next) nodes c.args.before) c.requires.after
