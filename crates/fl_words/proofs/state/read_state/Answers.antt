use Rattle.std.proofs.Common.{[], rules}
use Rattle.fl_words.proofs.FirstWords.{no_state}
use Rattle.fl_words.proofs.state.read_state.Goals as goal

pub returns-in_err-word-clause-only : goal.returns-in_err-word-clause-only
returns-in_err-word-clause-only c = λ line fits e.
    absurd (no_state c.args.text.now [] (λ go. search rules)
    (λ word rest lacks parts. absurd (c.in_err-word.ensures.only word rest lacks parts))
    (λ e. cc) (λ e. cc) (λ e. cc) (λ e. cc) (λ e. cc) line e)

pub returns-in_default-clause-only : goal.returns-in_default-clause-only
returns-in_default-clause-only c = λ line fits e.
    absurd (no_state c.args.text.now c.in_ok-word.word.now (λ go. search rules)
    (λ word rest lacks parts. (c.in_ok-word.ensures.only word rest lacks parts).0)
    c.in_default.not-state c.in_default.not-node c.in_default.not-file c.in_default.not-lock c.in_default.not-wait line e)
