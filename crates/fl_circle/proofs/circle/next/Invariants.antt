use Rattle.std.proofs.Common.{◌≡◌, ℕ, ◌<◌, true}
use Rattle.fl_circle.specs.Inside.Searching.{is_set}
use Rattle.fl_circle.proofs.circle.next.Given as goal

abbrev pub invariant-loop-i : goal.invariant-loop-i
invariant-loop-i g l = (k : ℕ) → k < l.i → is_set l.reached k ≡ true → is_set l.visited k ≡ true
