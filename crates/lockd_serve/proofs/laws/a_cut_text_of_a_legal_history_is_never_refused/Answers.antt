use Rattle.lockd_serve.proofs.CutTexts.{never_refused}
use Rattle.lockd_serve.proofs.laws.a_cut_text_of_a_legal_history_is_never_refused.Goals as goal

pub returns : goal.returns
returns c = never_refused c.no_text_is_that_of_two_histories.ensures c.a_line_is_short.ensures.lacks
    c.a_text_breaks_at_one_line_at_most.ensures.never c.no_head_comes_later.ensures.both
