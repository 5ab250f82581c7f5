use Rattle.std.proofs.Common.{◌≡◌, length}
use Rattle.fl_ranges_tests.proofs.tests.arena.fills_every_slot_twice.Given as goal

abbrev pub invariant-loop-round : goal.invariant-loop-round
invariant-loop-round g l = length l.arena.chains ≡ 1

abbrev pub invariant-loop-item : goal.invariant-loop-item
invariant-loop-item g l = length l.arena.chains ≡ 1

abbrev pub invariant-loop-item-2 : goal.invariant-loop-item-2
invariant-loop-item-2 g l = length l.arena.chains ≡ 1
