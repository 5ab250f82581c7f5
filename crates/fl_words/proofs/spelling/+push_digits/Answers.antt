use Rattle.std.proofs.Common.{◌%◌, ◌/◌, ◌∙◌, ◌≤◌, ◌+◌, ◌++◌, ◌∷◌, [], length, arith, ap, sym, append_assoc}
use Rattle.std.proofs.Common.{length-append}
use Rattle.std.specs.Fmt.{decimal}
use Rattle.fl_words.proofs.Digits.{last_digit, one_fewer, one_digit}
use Rattle.fl_words.proofs.spelling.+push_digits.Goals as goal

pub push_reserved-requires : goal.push_reserved-requires
push_reserved-requires t c =
    omega (arith, c.args.text.now.ok, c.requires.room, ap length (one_digit c.args.number c.if-number-lt10.true))

pub returns-then-number-lt10-clause-bytes : goal.returns-then-number-lt10-clause-bytes
returns-then-number-lt10-clause-bytes t c =
    c.push_reserved.ensures.items ∙ ap (λ ds. c.args.text.now.items ++ ds) (sym (one_digit c.args.number c.if-number-lt10.true))

pub push_digits-requires : goal.push_digits-requires
push_digits-requires t c =
    let some : 10 ≤ c.args.number = omega (arith, c.if-number-lt10.false) in
    (omega (arith, some, c.decreases), omega (arith, c.requires.room, one_fewer c.args.number some (omega arith)))

pub push_reserved-requires-2 : goal.push_reserved-requires-2
push_reserved-requires-2 t c =
    let some : 10 ≤ c.args.number = omega (arith, c.if-number-lt10.false) in
    omega (
      arith,
      c.push_digits.new.text.ok,
      c.push_digits.ensures.capacity,
      ap length c.push_digits.ensures.bytes,
      length-append c.args.text.now.items (decimal (c.args.number / 10)),
      c.requires.room,
      one_fewer c.args.number some (omega arith),
    )

pub returns-clause-bytes : goal.returns-clause-bytes
returns-clause-bytes t c =
    let some : 10 ≤ c.args.number = omega (arith, c.if-number-lt10.false) in
    c.push_reserved-2.ensures.items ∙ ap (λ ds. ds ++ (48 + c.args.number % 10) ∷ []) c.push_digits.ensures.bytes
    ∙ append_assoc c.args.text.now.items (decimal (c.args.number / 10)) ((48 + c.args.number % 10) ∷ [])
    ∙ ap (λ ds. c.args.text.now.items ++ ds) (sym (last_digit c.args.number some (omega arith)))
