use Rattle.fl_ranges.proofs.Blockers.{named_words, none_words}
use Rattle.fl_ranges.proofs.laws.blocker_is_the_first_lock_in_conflict.Goals as goal

pub returns-clause-named : goal.returns-clause-named
returns-clause-named c = named_words

pub returns-clause-none : goal.returns-clause-none
returns-clause-none c = none_words
