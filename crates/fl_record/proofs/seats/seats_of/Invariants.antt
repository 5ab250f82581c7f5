use Rattle.std.proofs.Common.{◌≡◌, ◌+◌, ◌≤◌, [], All, map, vec_len, vec_capacity}
use Rattle.std.specs.List.{range_with_len}
use Rattle.fl_record.proofs.seats.seats_of.Given as goal

abbrev pub invariant-loop-worker : goal.invariant-loop-worker
invariant-loop-worker g l =
    (l.rest.parts + l.worker ≡ l.workers)
    × (l.rest.amount ≡ 0)
    × (vec_len l.seats ≡ l.worker)
    × (l.workers ≤ vec_capacity l.seats)
    × (map (λ seat. seat.worker) l.seats.items ≡ range_with_len 0 l.worker)
    × All (λ seat. (seat.count ≡ 0) × (seat.handed ≡ []) × (seat.seen ≡ []) × (seat.stored ≡ [])) l.seats.items
