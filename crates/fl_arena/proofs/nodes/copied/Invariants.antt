use Rattle.std.proofs.Common.{◌≡◌, take}
use Rattle.fl_arena.proofs.nodes.copied.Given as goal

abbrev pub invariant-loop-slot : goal.invariant-loop-slot
invariant-loop-slot g l = l.nodes.items ≡ take l.slot l.from
