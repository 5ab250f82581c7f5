use Rattle.std.proofs.Common.{arith, ◌≡◌, ◌++◌, ◌∷◌}
use Rattle.std.proofs.lemmas.Grind.{common_steps}
use Rattle.fl_words.specs.Words.{name_text}
use Rattle.fl_words.proofs.Letters.{name_utf8}
use Rattle.fl_words.proofs.spelling.push_name.Goals as goal

pub returns-clause-utf8 : goal.returns-clause-utf8
returns-clause-utf8 c =
    let added : c.extend_from_slice.new.self.items ≡ c.args.text.now.items ++ 32 ∷ name_text c.args.name.now = grind (arith, common_steps) in
    name_utf8 c.args.text.now.items _ c.args.name.now c.as_bytes-bytes.ensures.name.are_bytes added
