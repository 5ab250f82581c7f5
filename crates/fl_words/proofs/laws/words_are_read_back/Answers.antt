use Rattle.fl_words.proofs.Spaces.{read_back}
use Rattle.fl_words.proofs.laws.words_are_read_back.Goals as goal

pub returns : goal.returns
returns c = read_back
