use Rattle.std.proofs.Common.{◌≡◌, arith}
use Rattle.std.proofs.lemmas.Str.Pattern.{split_after}
use Rattle.fl_words.proofs.WordLemmas.{some_and}
use Rattle.fl_words.proofs.words.split_word.Goals as goal

pub returns-clause-only : goal.returns-clause-only
returns-clause-only c = λ word rest lacks e. some_and c.split_once.result (λ parts. (parts.0.now ≡ word) × (parts.1.now ≡ rest))
    (split_after 32 c.args.text.now word rest c.split_once.result c.split_once.ensures.cases (omega arith) e lacks)
