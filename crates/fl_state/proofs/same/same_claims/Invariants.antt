use Rattle.std.proofs.Common.{◌≡◌, ◌↔◌, ◌-◌, length, drop}
use Rattle.fl_arena.specs.Chains.{items}
use Rattle.fl_arena.specs.Cursors.{cursor_at}
use Rattle.fl_state.specs.Inside.Seeking.{requests_on}
use Rattle.fl_state.proofs.same.same_claims.Given as goal

abbrev pub invariant-loop-claim : goal.invariant-loop-claim
invariant-loop-claim l = record {
  first : l.first ≡ cursor_at l.one 0 l.first.index;
  second : l.second ≡ cursor_at l.other 0 l.second.index;
  same : (drop l.first.index (requests_on l.one) ≡ drop l.second.index (requests_on l.other)) ↔ (requests_on l.one ≡ requests_on l.other);
}

abbrev pub decreases-loop-claim : goal.decreases-loop-claim
decreases-loop-claim l = length (items l.one 0) - l.first.index
