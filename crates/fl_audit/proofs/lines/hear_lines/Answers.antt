use Rattle.std.proofs.Common.{◌∙◌, ◌+◌, length, sym, ap}
use Rattle.fl_audit.proofs.Hearing.{hearing_starts, hearing_on, hearing_bad}
use Rattle.fl_audit.proofs.lines.hear_lines.Goals as goal
use Rattle.fl_audit.specs.Inside.Keeping.{Keeping}

pub loop-most-init : goal.loop-most-init
loop-most-init c = hearing_starts c.args.most c.args.judge.now c.args.text.now c.requires.within

pub loop-most-preserved : goal.loop-most-preserved
loop-most-preserved c =
    hearing_on c.args.most c.args.judge.now c.loop-most.judge c.hear.new.self c.args.text.now c.loop-most.rest.now c.in-Some.after.now c.in-Some.line
    c.loop-most.invariant (λ e. cc (c.has_enough.ensures.1 e, c.if-has_enough.false)) (c.in-Some.ensures.fits) (c.in-Some.ensures.spelled)
    c.hear.ensures

pub returns-in_default-clause-heard : goal.returns-in_default-clause-heard
returns-in_default-clause-heard c =
    hearing_bad c.args.most c.args.judge.now c.loop-most.judge c.args.text.now c.loop-most.rest.now (c.heard.result + 1) c.loop-most.invariant
    (λ e. cc (c.has_enough.ensures.1 e, c.if-has_enough.false)) (sym c.has_newline.ensures ∙ c.loop-most-test.true) c.in_default.ensures.only
    (ap (λ n. n + 1) (c.heard.ensures ∙ ap (λ (k : Keeping). length k.lines) c.meet_bad.ensures))
