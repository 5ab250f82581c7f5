use Rattle.std.proofs.Common.{◌≡◌, ℕ, ◌<◌, ◌≤◌, false}
use Rattle.fl_dir.specs.Naming.{is_linked_at}
use Rattle.fl_dir.proofs.dir.Dir.next_before.Given as goal

abbrev pub invariant-loop-number : goal.invariant-loop-number
invariant-loop-number l = (q : ℕ) → l.from ≤ q → q < l.number → is_linked_at l.self q ≡ false
