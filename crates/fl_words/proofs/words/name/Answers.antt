use Rattle.std.proofs.Common.{◌≡◌, sym, subst, ◌∙◌, [], ◌∷◌, rules}
use Rattle.fl_order.specs.Name.{IsName}
use Rattle.fl_words.proofs.WordLemmas.{dash_is_empty, some_of}
use Rattle.fl_words.proofs.words.name.Goals as goal

pub returns-then-eq-clause-only : goal.returns-then-eq-clause-only
returns-then-eq-clause-only c = λ name is e.
    let dash : c.args.word.now ≡ 45 ∷ [] = search rules in
    let empty : name ≡ [] = dash_is_empty name (sym e ∙ dash) in
    some_of c.new.result name [] (c.new.ensures.found.1 (subst IsName empty is)) c.new.ensures.bytes (sym empty)
