use Rattle.fl_ranges.proofs.Starts.{starts_counted}
use Rattle.fl_ranges.proofs.laws.runs_are_counted_by_their_starts.Goals as goal

pub returns : goal.returns
returns c = starts_counted
