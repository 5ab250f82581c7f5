use Rattle.std.proofs.Common.{ap, arith}
use Rattle.fl_log.proofs.Counts.{one_popped}
use Rattle.fl_log.proofs.shared_log.merged.Goals as goal

pub loop-appender-preserved : goal.loop-appender-preserved
loop-appender-preserved g c =
    let so_far = c.loop-appender.invariant in
    let popped = one_popped (λ (a : _). a.count) _ _ _ c.in-Some.appender c.pop-in-loop-appender.ensures.items c.in-Some.is in (
      omega (arith, so_far.0, popped.0, c.merge.ensures.parts, c.into_share-share.ensures.parts),
      omega (arith, so_far.1, popped.1, c.merge.ensures.amount, c.into_share-share.ensures.amount),
    )
