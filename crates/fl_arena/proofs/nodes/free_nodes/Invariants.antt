use Rattle.fl_arena.specs.Inside.Links.{AreFree}
use Rattle.fl_arena.proofs.nodes.free_nodes.Given as goal

abbrev pub invariant-loop-slot : goal.invariant-loop-slot
invariant-loop-slot g l = AreFree l.nodes.items l.spare l.slot
