use Rattle.std.proofs.Common.{◌≡◌, ◌∙◌, rules, sym, ap, arith}
use Rattle.std.specs.Result.{result_ok}
use Rattle.std.proofs.lemmas.Fmt.{parse-decimal}
use Rattle.lockd_drive.proofs.ActionLemmas.{utf8_is_read, decimal_utf8}
use Rattle.lockd_drive.proofs.actions.parsed.Goals as goal

pub returns-in_err-ok : goal.returns-in_err-ok
returns-in_err-ok c = λ n small e.
    absurd (utf8_is_read c.from_utf8.result _ _ _ c.from_utf8.ensures.cases (decimal_utf8 c.args.word.now n small e)
    (sym c.ok.ensures.value ∙ c.in_err-ok.was))

pub returns : goal.returns
returns c = λ n small e.
    let same : c.in_ok-ok.field-0.now ≡ c.args.word.now = search rules in
    c.ok-2.ensures.value ∙ ap result_ok (parse-decimal 32 n c.in_ok-ok.field-0.now c.parse.result small (omega arith)
    (same ∙ e) c.parse.ensures.value.0)
