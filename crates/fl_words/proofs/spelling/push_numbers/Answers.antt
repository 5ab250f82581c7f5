use Rattle.std.proofs.Common.{◌≤◌, ◌∷◌, ◌++◌, length, ap, ◌∙◌, arith}
use Rattle.std.proofs.lemmas.Grind.{common_steps}
use Rattle.std.proofs.lemmas.List.{take_all}
use Rattle.std.specs.Fmt.{decimal}
use Rattle.std.specs.List.{flat_map}
use Rattle.fl_words.proofs.Numbers.{spread}
use Rattle.fl_words.proofs.spelling.push_numbers.Goals as goal

pub returns-clause-bytes : goal.returns-clause-bytes
returns-clause-bytes c =
    let past : length c.args.numbers.now ≤ c.loop-number.number-index = grind (arith, common_steps) in
    c.loop-number.invariant.0
    ∙ ap (λ text. c.args.text.now.items ++ text)
    (ap (flat_map (λ n. 32 ∷ decimal n)) (take_all c.loop-number.number-index c.args.numbers.now past)
    ∙ spread c.args.numbers.now c.requires.some)
