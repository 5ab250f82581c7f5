use Rattle.std.proofs.Common.{◌≤◌, ◌<◌, ℕ, slice_index_or}
use Rattle.fl_ranges_tests.proofs.tests.ranges.are_ascending.Given as goal

abbrev pub invariant-loop-place : goal.invariant-loop-place
invariant-loop-place l = (i j d : ℕ) → i ≤ j → j < l.place → slice_index_or l.owners i d ≤ slice_index_or l.owners j d
