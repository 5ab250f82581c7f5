use Rattle.std.proofs.Common.{◌≡◌, ◌-◌, ◌≤◌, Bool, true, false, [], length, take}
use Rattle.fl_arena.specs.Chains.{items}
use Rattle.fl_arena.specs.Cursors.{Tests, cursor_at}
use Rattle.fl_waiting.specs.Inside.Claims.{requests_of, ruled}
use Rattle.fl_waiting.specs.Waiting.{passes_free, AllBehind}
use Rattle.fl_waiting.specs.declared.claim.Claim.{Claim}
use Rattle.fl_waiting.specs.declared.parked.Request.{Request}
use Rattle.fl_waiting.proofs.parked.first_free.Given as goal

abbrev pub invariant-loop-claim : goal.invariant-loop-claim
invariant-loop-claim g l = record {
  at : l.cursor ≡ cursor_at l.claims 0 l.cursor.index;
  within : l.cursor.index ≤ length (items l.claims 0);
  none : (p : Request → Bool) → Tests g.F.Fn (λ (claim : Claim). p claim.request) l.test →
      AllBehind (λ older r. passes_free (ruled true) p older r ≡ false) [] (take l.cursor.index (requests_of l.claims));
}

abbrev pub decreases-loop-claim : goal.decreases-loop-claim
decreases-loop-claim g l = length (items l.claims 0) - l.cursor.index
