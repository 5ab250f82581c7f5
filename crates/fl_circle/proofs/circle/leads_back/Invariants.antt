use Rattle.std.specs.Prelude.{cond}
use Rattle.std.specs.List.{sum_by}
use Rattle.fl_circle.specs.Inside.Searching.{blocks_among}
use Rattle.fl_circle.proofs.Searches.{IsSearching}
use Rattle.fl_circle.proofs.circle.leads_back.Given as goal

abbrev pub invariant-loop-place : goal.invariant-loop-place
invariant-loop-place g l = IsSearching g.row.N (blocks_among l.rules (g.T.Conflicts.marking l.locks) l.wanted) l.wanted l.asked l.reached l.visited

abbrev pub decreases-loop-place : goal.decreases-loop-place
decreases-loop-place g l = sum_by (λ v. cond v 0 1) l.visited
