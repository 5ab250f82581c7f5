use Rattle.std.proofs.Common.{◌≡◌, ◌≤◌, ◌-◌, [], All, length, vec_capacity}
use Rattle.crossbeam_queue.specs.Passes.{view, IsPassOf}
use Rattle.fl_intake.specs.Inside.Conserved.{knows}
use Rattle.fl_intake.proofs.intake.Intake.new.Given as goal

abbrev pub invariant-loop : goal.invariant-loop
invariant-loop l = IsPassOf l.queue l.pass × (view l.pass ≡ knows (17 - length l.takes.items) [] [])
    × (length l.takes.items ≡ l.counter)
    × All (λ end. (end.of ≡ l.queue.table.shared.table_id) × (end.taken ≡ [])) l.takes.items
    × (l.fn.takers ≤ vec_capacity l.takes)
