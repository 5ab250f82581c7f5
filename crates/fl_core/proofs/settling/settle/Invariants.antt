use Rattle.std.proofs.Common.{◌≡◌, ◌≤◌, ◌+◌, length}
use Rattle.fl_marks.specs.Conflict.{IsLawful}
use Rattle.fl_core.specs.Inside.Touched.{OthersWait}
use Rattle.fl_core.specs.Settling.{present}
use Rattle.fl_waiting.specs.Waiting.{AreApart}
use Rattle.fl_core.proofs.Settlings.{IsSettling}
use Rattle.fl_core.proofs.settling.settle.Given as goal

-- what was told and is left to tell is the whole
abbrev pub invariant-loop-claim : goal.invariant-loop-claim
invariant-loop-claim l = record {
  so_far : IsSettling l.rules (present l.initial.locks.marking l.initial.parked) (present l.locks.marking l.parked) l.initial.tolds.told l.tolds.told;
  others : OthersWait l.touched l.rules l.locks.marking l.parked;
  apart : AreApart l.initial.parked → AreApart l.parked;
  few : length l.tolds.told + length l.parked ≤ length l.initial.tolds.told + length l.initial.parked;
  room : l.tolds.room ≡ l.initial.tolds.room;
  lawful : IsLawful l.initial.locks.marking → IsLawful l.locks.marking;
  limit : l.locks.limit ≡ l.rules.runs;
}

abbrev pub decreases-loop-claim : goal.decreases-loop-claim
decreases-loop-claim l = length l.parked
