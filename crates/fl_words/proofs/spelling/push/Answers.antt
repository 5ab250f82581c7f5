use Rattle.std.proofs.Common.{rules, ◌≡◌, ◌++◌, sym, subst}
use Rattle.std.proofs.lemmas.Str.{IsUtf8-append}
use Rattle.std.specs.Str.{IsUtf8}
use Rattle.fl_words.proofs.spelling.push.Goals as goal

pub returns-clause-utf8 : goal.returns-clause-utf8
returns-clause-utf8 c = λ is.
    let added : c.extend_from_slice.new.self.items ≡ c.args.text.now.items ++ c.args.word.now = search rules in
    subst IsUtf8 (sym added) (IsUtf8-append c.args.text.now.items c.args.word.now is c.utf8.word)
