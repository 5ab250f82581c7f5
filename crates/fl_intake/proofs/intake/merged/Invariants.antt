use Rattle.std.proofs.Common.{◌≡◌, ◌<◌, ◌+◌, All, length}
use Rattle.std.specs.Prelude.{sum_by}
use Rattle.crossbeam_queue.specs.Passes.{view, IsPassOf}
use Rattle.fl_intake.specs.Ends.{weight_taken}
use Rattle.fl_intake.specs.Often.{Weight}
use Rattle.fl_intake.proofs.intake.merged.Given as goal

abbrev pub invariant-loop-end : goal.invariant-loop-end
invariant-loop-end l = IsPassOf l.queue l.pass × (0 < (view l.pass).shares)
    × ((view l.pass).shares + length l.end-iterator.rest.items ≡ (view l.fn.pass).shares + length l.fn.takes.items)
    × All (λ end. end.of ≡ l.queue.table.shared.table_id) l.end-iterator.rest.items
    × ((weight : Weight) → sum_by weight (view l.pass).put ≡ sum_by weight (view l.fn.pass).put)
    × ((weight : Weight) → sum_by weight (view l.pass).taken + weight_taken weight l.end-iterator.rest.items
    ≡ sum_by weight (view l.fn.pass).taken + weight_taken weight l.fn.takes.items)
