use Rattle.fl_ranges.proofs.Changes.{get-marking_after}
use Rattle.fl_ranges.proofs.laws.last_change_counts.Goals as goal

pub returns : goal.returns
returns c = get-marking_after
