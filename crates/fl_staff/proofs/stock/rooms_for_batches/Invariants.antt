use Rattle.std.proofs.Common.{◌≡◌, ◌+◌, All, length}
use Rattle.fl_workers.specs.Room.{HasBatchFor}
use Rattle.fl_staff.proofs.stock.rooms_for_batches.Given as goal

-- each so far has room for a batch, and for the replies to it under these rules
abbrev pub invariant-loop : goal.invariant-loop
invariant-loop l = All (HasBatchFor (l.rules.parked + 1)) l.batches.items × (length l.batches.items ≡ l.counter)
