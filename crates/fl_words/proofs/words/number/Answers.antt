use Rattle.std.proofs.Common.{rules, ap, subst, sym, ◌∙◌}
use Rattle.std.specs.Result.{result_ok}
use Rattle.std.proofs.lemmas.Fmt.{parse-decimal}
use Rattle.fl_words.specs.Words.{IsPlain}
use Rattle.fl_words.proofs.WordLemmas.{decimal-parsed, IsPlain-decimal}
use Rattle.fl_words.proofs.words.number.Goals as goal

pub returns-then-not-is_plain-clause-only : goal.returns-then-not-is_plain-clause-only
returns-then-not-is_plain-clause-only c = λ n small e.
    let plain = subst IsPlain (sym e) (IsPlain-decimal n small) in
    let told = c.is_plain.ensures.1 plain in
    absurd (cc)

pub returns-clause-spelled : goal.returns-clause-spelled
returns-clause-spelled c =
    let plain : IsPlain c.args.word.now = search rules in
    let spelled = decimal-parsed c.args.word.now c.parse.result c.parse.ensures.value.0 plain in
    search rules

pub returns-clause-only : goal.returns-clause-only
returns-clause-only c = λ n small e.
    c.ok.ensures.value ∙ ap result_ok (parse-decimal 64 n c.args.word.now c.parse.result small small e c.parse.ensures.value.0)
