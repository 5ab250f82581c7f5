use Rattle.std.proofs.Common.{◌≡◌, arith}
use Rattle.fl_arena.proofs.NodeLemmas.{AreFree-push}
use Rattle.fl_arena.proofs.nodes.free_nodes.Goals as goal

pub loop-slot-preserved : goal.loop-slot-preserved
loop-slot-preserved g c = rw (c.in_ok-push.ensures.items, c.free.ensures) (AreFree-push _ _ _ c.loop-slot.invariant)

pub returns : goal.returns
returns g c =
    let all : c.loop-slot.slot ≡ c.args.count = omega arith in
    rw (← all) c.loop-slot.invariant
