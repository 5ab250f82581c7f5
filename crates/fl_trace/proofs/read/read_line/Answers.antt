use Rattle.std.proofs.Common.{Some}
use Rattle.fl_trace.proofs.FirstWords.{no_line}
use Rattle.fl_trace.proofs.read.read_line.Goals as goal

pub returns-in_err-read_state-in_default-clause-only : goal.returns-in_err-read_state-in_default-clause-only
returns-in_err-read_state-in_default-clause-only c = λ line fits e.
    absurd (no_line c.args.text.now c.first_word.result.0.now
    (λ word rest lacks parts. (c.first_word.ensures.only word (Some rest) lacks parts).0)
    c.in_default.not-ask c.in_default.not-tell
    (λ state fits e. let none = c.in_err-read_state-in_default.ensures.only state fits e in cc) line fits e)
