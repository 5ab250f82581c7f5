use Rattle.std.proofs.Common.{◌≡◌, ◌==◌, ℕ, true, sym, arith}
use Rattle.std.proofs.lemmas.Bool.Decides.{nat_tests}
use Rattle.fl_waiting.specs.Waiting.{Wish}
use Rattle.fl_circle.proofs.Wishes.{empty_closes_none, flock_closes_none}
use Rattle.fl_circle.proofs.circle.close_circle.Goals as goal

none : (n : ℕ) → true ≡ (n == 0) → n ≡ 0
none n e = grind (arith, nat_tests)

pub returns-in-Flock : goal.returns-in-Flock
returns-in-Flock g c =
    let asked : Wish = record { key = c.args.key.now; start = c.args.range.now.start; end = c.args.range.now.end; kind = c.args.kind } in
    sym (flock_closes_none c.args.rules (g.T.Conflicts.marking c.args.locks.now) c.args.parked.now asked c.in-Flock.is)

pub returns-then-is_empty : goal.returns-then-is_empty
returns-then-is_empty g c =
    let asked : Wish = record { key = c.args.key.now; start = c.args.range.now.start; end = c.args.range.now.end; kind = c.args.kind } in
    sym (empty_closes_none c.args.rules (g.T.Conflicts.marking c.args.locks.now) c.args.parked.now asked (none _ c.if-is_empty.ensures.empty))
