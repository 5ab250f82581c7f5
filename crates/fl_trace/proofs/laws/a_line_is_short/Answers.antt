use Rattle.fl_trace.proofs.Lengths.{line_short}
use Rattle.fl_trace.proofs.ReadBack.{line_lacks}
use Rattle.fl_trace.proofs.laws.a_line_is_short.Goals as goal

pub returns-clause-short : goal.returns-clause-short
returns-clause-short c = line_short c.words_are_read_back.ensures

pub returns-clause-lacks : goal.returns-clause-lacks
returns-clause-lacks c = line_lacks c.words_are_read_back.ensures
