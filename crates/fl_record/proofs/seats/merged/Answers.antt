use Rattle.std.proofs.Common.{arith}
use Rattle.fl_record.specs.Seats.{Place}
use Rattle.fl_record.proofs.Seating.{one_popped}
use Rattle.fl_record.proofs.seats.merged.Goals as goal

pub loop-seat-preserved : goal.loop-seat-preserved
loop-seat-preserved g c =
    let i = c.loop-seat.invariant in
    let popped = one_popped (λ (s : Place). s.count) _ _ _ c.in-Some-pop.seat c.pop-in-loop-seat.ensures.items c.in-Some-pop.is in (
      omega (arith, i.0, popped.0, c.merge.ensures.parts, c.into_share-share.ensures.parts),
      omega (arith, i.1, popped.1, c.merge.ensures.amount, c.into_share-share.ensures.amount),
      c.merge.ensures.apart,
    )
