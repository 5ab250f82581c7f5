use Rattle.std.proofs.Common.{◌≢◌, All, take}
use Rattle.fl_record.proofs.seats.has_worker.Given as goal

abbrev pub invariant-loop-seat : goal.invariant-loop-seat
invariant-loop-seat g l = All (λ seat. seat.worker ≢ l.worker) (take l.seat-index l.seats)
