use Rattle.std.proofs.Common.{take}
use Rattle.fl_record.specs.Seats.{AreApart}
use Rattle.fl_record.proofs.seats.are_apart.Given as goal

abbrev pub invariant-loop-i : goal.invariant-loop-i
invariant-loop-i g l = AreApart (take l.i l.seats)
