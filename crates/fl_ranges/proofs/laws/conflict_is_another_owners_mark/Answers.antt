use Rattle.fl_ranges.proofs.ConflictWords.{conflict_words}
use Rattle.fl_ranges.proofs.laws.conflict_is_another_owners_mark.Goals as goal

pub returns : goal.returns
returns c = conflict_words
