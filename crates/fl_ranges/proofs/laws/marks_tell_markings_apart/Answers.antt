use Rattle.std.specs.FinMap.{same_map}
use Rattle.fl_ranges.proofs.Markings.{spots_total, exact_spots}
use Rattle.fl_ranges.proofs.laws.marks_tell_markings_apart.Goals as goal

pub returns : goal.returns
returns c m n same = same_map spots_total exact_spots m n same
