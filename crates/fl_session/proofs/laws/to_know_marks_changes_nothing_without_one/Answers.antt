use Rattle.fl_session.proofs.FirstLemmas.{plain_session}
use Rattle.fl_session.proofs.laws.to_know_marks_changes_nothing_without_one.Goals as goal

pub returns : goal.returns
returns c = plain_session
