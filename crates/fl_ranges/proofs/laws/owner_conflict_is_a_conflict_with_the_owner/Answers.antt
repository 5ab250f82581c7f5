use Rattle.fl_ranges.proofs.OwnerConflicts.{owner_conflict_words, never_own}
use Rattle.fl_ranges.proofs.laws.owner_conflict_is_a_conflict_with_the_owner.Goals as goal

pub returns-clause-words : goal.returns-clause-words
returns-clause-words c = owner_conflict_words

pub returns-clause-own : goal.returns-clause-own
returns-clause-own c = never_own
