use Rattle.fl_trace.proofs.OneText.{breaks_once, breaks_never}
use Rattle.fl_trace.proofs.laws.a_text_breaks_at_one_line_at_most.Goals as goal

pub returns-clause-once : goal.returns-clause-once
returns-clause-once c = breaks_once c.words_are_read_back.ensures

pub returns-clause-never : goal.returns-clause-never
returns-clause-never c = breaks_never c.words_are_read_back.ensures
