use Rattle.fl_trace.proofs.OneText.{texts_alone}
use Rattle.fl_trace.proofs.laws.no_text_is_that_of_two_histories.Goals as goal

pub returns : goal.returns
returns c = texts_alone c.words_are_read_back.ensures
