use Rattle.std.proofs.Common.{◌≡◌, ◌≤◌, ◌+◌, ◌++◌, length, vec_capacity}
use Rattle.crossbeam_queue.specs.Passes.{view, IsPassOf}
use Rattle.fl_intake.specs.Inside.Conserved.{knows}
use Rattle.fl_intake.proofs.intake.drained.Given as goal

abbrev pub invariant-loop : goal.invariant-loop
invariant-loop g l = IsPassOf l.queue l.pass
    × (view l.pass ≡ knows 17 (view l.fn.pass).put ((view l.fn.pass).taken ++ l.room.items))
    × (length (view l.fn.pass).put ≤ length (view l.fn.pass).taken + 64) × (64 ≤ vec_capacity l.room)
