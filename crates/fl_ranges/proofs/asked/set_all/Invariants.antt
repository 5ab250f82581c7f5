use Rattle.std.proofs.Common.{◌≡◌, ◌≤◌, ◌<◌, ℕ, true, false, slice_index_or}
use Rattle.fl_ranges.proofs.asked.set_all.Given as goal

abbrev pub invariant-loop-place : goal.invariant-loop-place
invariant-loop-place l = record {
  set : (k : ℕ) → l.from ≤ k → k < l.place → slice_index_or l.found k false ≡ true;
  before : (k : ℕ) → k < l.from → slice_index_or l.found k false ≡ slice_index_or l.fn.found k false;
  behind : (k : ℕ) → l.place ≤ k → slice_index_or l.found k false ≡ slice_index_or l.fn.found k false;
}
