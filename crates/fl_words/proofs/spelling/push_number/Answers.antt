use Rattle.std.proofs.Common.{length, ap, arith, length-append}
use Rattle.std.specs.Fmt.{decimal}
use Rattle.std.proofs.lemmas.Fmt.{length-decimal-le}
use Rattle.fl_words.proofs.Letters.{decimal_word, more_utf8}
use Rattle.fl_words.proofs.spelling.push_number.Goals as goal

pub push_digits-requires : goal.push_digits-requires
push_digits-requires c = record {
  room = omega (
    arith,
    c.requires.room,
    c.push.ensures.few,
    c.push.ensures.capacity,
    length-decimal-le 20 c.args.number (omega arith) (omega arith) (omega arith),
  );
}

pub returns-clause-few : goal.returns-clause-few
returns-clause-few c = omega (
  arith,
  ap length c.push_digits.ensures.bytes,
  length-append c.push.new.text.items (decimal c.args.number),
  c.push.ensures.few,
  length-decimal-le 20 c.args.number (omega arith) (omega arith) (omega arith),
)

pub returns-clause-utf8 : goal.returns-clause-utf8
returns-clause-utf8 c = λ is.
    more_utf8 33 c.push.new.text.items _ (decimal c.args.number) (decimal_word c.args.number (omega arith)) c.push_digits.ensures.bytes (c.push.ensures.utf8 is)
