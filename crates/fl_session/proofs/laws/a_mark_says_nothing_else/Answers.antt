use Rattle.fl_session.proofs.MarkLemmas.{marked_same}
use Rattle.fl_session.proofs.laws.a_mark_says_nothing_else.Goals as goal

pub returns : goal.returns
returns c = marked_same
