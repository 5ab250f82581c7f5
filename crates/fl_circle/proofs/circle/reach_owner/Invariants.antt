use Rattle.std.proofs.Common.{◌≡◌, ◌==◌, ◌&&◌, ◌||◌, ℕ, nat_lt, length, slice_index_or}
use Rattle.fl_circle.specs.Inside.Searching.{is_set}
use Rattle.fl_circle.proofs.circle.reach_owner.Given as goal

-- the places before are set if they are the owner's, and the others are as before
abbrev pub invariant-loop-i : goal.invariant-loop-i
invariant-loop-i l = record {
  wide : length l.reached ≡ length l.owners;
  set : (k : ℕ) → is_set l.reached k ≡ (is_set l.initial.reached k || (nat_lt k l.i && (l.owner == slice_index_or l.owners k 0)));
}
