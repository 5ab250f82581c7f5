use Rattle.std.proofs.Common.{[], rules}
use Rattle.fl_trace.proofs.FirstWords.{no_result}
use Rattle.fl_trace.proofs.tell.read_result.Goals as goal

pub returns-in_err-word-clause-only : goal.returns-in_err-word-clause-only
returns-in_err-word-clause-only c = λ told fits e.
    absurd (no_result c.args.text.now [] (λ ok. search rules) (λ word rest lacks parts. absurd (c.in_err-word.ensures.only word rest lacks parts))
    (λ e. cc) (λ e. cc) (λ e. cc) (λ e. cc) (λ e. cc) (λ e. cc) told e)

pub returns-in_default-clause-only : goal.returns-in_default-clause-only
returns-in_default-clause-only c = λ told fits e.
    absurd (no_result c.args.text.now c.in_ok-word.word.now (λ ok. search rules) (λ word rest lacks parts. (c.in_ok-word.ensures.only word rest lacks parts).0)
    c.in_default.not-entry c.in_default.not-attr c.in_default.not-open c.in_default.not-made c.in_default.not-lock c.in_default.not-err told e)
