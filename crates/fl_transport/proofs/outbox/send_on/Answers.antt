use Rattle.fl_transport.proofs.WriteLemmas.{more_written}
use Rattle.fl_transport.proofs.outbox.send_on.Goals as goal

pub loop-at-preserved : goal.loop-at-preserved
loop-at-preserved g c =
    more_written _ _ _ c.args.reply.now c.loop-at.at c.in-Ok.n c.loop-at.invariant.0 c.in-Ok.ensures.bound
    c.loop-at.invariant.1 c.in-Ok.ensures.bytes
