use Rattle.fl_arena.specs.Inside.Links.{with_previous}
use Rattle.fl_arena.proofs.NodeLemmas.{alter_link-read}
use Rattle.fl_arena.proofs.nodes.set_previous.Goals as goal

pub returns-in-Some : goal.returns-in-Some
returns-in-Some g c =
    let within = rw c.in-Some.is at c.requires in
    rw c.set_previous.ensures (alter_link-read (with_previous c.args.previous) c.args.nodes.now.items c.args.slot c.in-Some.slot c.from.result c.index_mut.result.now c.in-Some.is
    c.from.ensures within c.index_mut.ensures.value)
