use Rattle.std.proofs.Common.{◌≡◌, ◌≤◌, ◌+◌, ◌++◌, false, not, length}
use Rattle.std.specs.List.{filter}
use Rattle.fl_core.specs.Replies.{ended_all, error_of, picks}
use Rattle.fl_core.proofs.ending.end_all.Given as goal

-- what was told and is left to tell is the whole
abbrev pub invariant-loop-claim : goal.invariant-loop-claim
invariant-loop-claim l = record {
  tolds : l.tolds.told ++ ended_all (error_of l.ending) (picks l.ending) l.parked
      ≡ l.initial.tolds.told ++ ended_all (error_of l.ending) (picks l.ending) l.initial.parked;
  parked : filter (λ r. not (picks l.ending r)) l.parked ≡ filter (λ r. not (picks l.ending r)) l.initial.parked;
  few : length l.tolds.told + length l.parked ≤ length l.initial.tolds.told + length l.initial.parked;
  room : l.tolds.room ≡ l.initial.tolds.room;
  none : l.ended ≡ false → l.parked ≡ l.initial.parked;
}

abbrev pub decreases-loop-claim : goal.decreases-loop-claim
decreases-loop-claim l = length l.parked
