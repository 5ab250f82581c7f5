use Rattle.std.proofs.Common.{◌≡◌, ◌+◌, ◌≤◌, length, sum_by}
use Rattle.fl_record.proofs.seats.merged.Given as goal

abbrev pub invariant-loop-seat : goal.invariant-loop-seat
invariant-loop-seat g l =
    (l.all.parts + length l.seats.items ≡ length l.fn.seats.items)
    × (l.all.amount + sum_by (λ seat. seat.count) l.seats.items ≡ sum_by (λ seat. seat.count) l.fn.seats.items)
    × (l.all.parts ≤ g.L.Ledger.parts)

abbrev pub decreases-loop-seat : goal.decreases-loop-seat
decreases-loop-seat g l = goal.left-loop-seat g l
