use Rattle.std.proofs.Common.{◌≡◌, ◌∙◌, sym, subst, rules}
use Rattle.std.specs.Str.{IsUtf8}
use Rattle.fl_trace.specs.Text.{line_text}
use Rattle.fl_trace.proofs.ReadBack.{line_alone, line_lacks, line_utf8}
use Rattle.fl_trace.proofs.Reading.{utf8_is_read}
use Rattle.fl_trace.proofs.read.first_line.Goals as goal

pub returns-in_err-line-clause-only : goal.returns-in_err-line-clause-only
returns-in_err-line-clause-only c = λ line after fits e. absurd (c.in_err-line.ensures.only (line_text line) after (line_lacks c.words_are_read_back.ensures line fits) e)

pub returns-in_err-ok-clause-only : goal.returns-in_err-ok-clause-only
returns-in_err-ok-clause-only c = λ line after fits e.
    let parts = c.in_ok-line.ensures.only (line_text line) after (line_lacks c.words_are_read_back.ensures line fits) e in
    let utf8 = subst IsUtf8 (sym parts.0) (line_utf8 c.words_are_read_back.ensures line fits) in
    absurd (utf8_is_read c.from_utf8.result _ _ _ c.from_utf8.ensures.cases utf8 (sym c.ok.ensures.value ∙ c.in_err-ok.was))

pub returns-in_err-line-2-clause-only : goal.returns-in_err-line-2-clause-only
returns-in_err-line-2-clause-only c = λ line after fits e.
    let parts = c.in_ok-line.ensures.only (line_text line) after (line_lacks c.words_are_read_back.ensures line fits) e in
    let same : c.in_ok-ok.field-0.now ≡ c.in_ok-line.line.now = search rules in
    let none = c.in_err-line-2.ensures.only line fits (same ∙ parts.0) in
    absurd (cc)

pub returns-clause-only : goal.returns-clause-only
returns-clause-only c = λ line after fits e.
    let parts = c.in_ok-line.ensures.only (line_text line) after (line_lacks c.words_are_read_back.ensures line fits) e in
    let same : c.in_ok-ok.field-0.now ≡ c.in_ok-line.line.now = search rules in
    (line_alone c.words_are_read_back.ensures c.in_ok-line-2.line line c.in_ok-line-2.ensures.fits fits (sym c.in_ok-line-2.ensures.spelled ∙ same ∙ parts.0), parts.1)
