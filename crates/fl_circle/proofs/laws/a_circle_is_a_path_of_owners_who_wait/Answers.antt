use Rattle.fl_circle.proofs.Wishes.{waits_for_someone, closes_words, deadlock_words}
use Rattle.fl_circle.proofs.laws.a_circle_is_a_path_of_owners_who_wait.Goals as goal

pub returns-clause-someone : goal.returns-clause-someone
returns-clause-someone c = waits_for_someone

pub returns-clause-wish : goal.returns-clause-wish
returns-clause-wish c = closes_words

pub returns-clause-request : goal.returns-clause-request
returns-clause-request c = deadlock_words
