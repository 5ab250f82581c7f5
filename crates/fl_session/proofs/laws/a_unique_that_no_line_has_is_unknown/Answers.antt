use Rattle.fl_session.proofs.KnownLemmas.{nothing_unknown}
use Rattle.fl_session.proofs.laws.a_unique_that_no_line_has_is_unknown.Goals as goal

pub returns : goal.returns
returns c = nothing_unknown
