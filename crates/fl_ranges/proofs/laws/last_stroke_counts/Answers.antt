use Rattle.fl_ranges.proofs.Markings.{get-marking_of}
use Rattle.fl_ranges.proofs.laws.last_stroke_counts.Goals as goal

pub returns : goal.returns
returns c = get-marking_of
