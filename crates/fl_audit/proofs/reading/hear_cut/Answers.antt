use Rattle.std.proofs.Common.{None, List, true, sym, subst}
use Rattle.fl_audit.proofs.Listening.{of_all, other_err, whole_first}
use Rattle.fl_audit.proofs.reading.hear_cut.Goals as goal
use Rattle.fl_history.specs.declared.history.Line.{Line}
use Rattle.fl_audit.specs.Audit.{whole_lines}
use Rattle.fl_audit.specs.Details.{AreDetailsOf}
use Rattle.fl_audit.specs.First.{AreWholeLines}
use Rattle.fl_audit.specs.Inside.Hearing.{AreJudged, IsBad}
use Rattle.fl_audit.specs.declared.finding.AuditFault.TheVariants as fault
use Rattle.fl_trace.specs.Text.{LineFits, BreaksAt}
use Rattle.fl_waiting.specs.declared.rules.Rules.{Rules}

pub returns-in-Ok-clause-heard : goal.returns-in-Ok-clause-heard
returns-in-Ok-clause-heard g c =
    let heard = c.in-Ok.heard in
    let all = c.all_heard in
    of_all (g.R.Read.remaining c.args.input.now) (λ text. AreJudged None true text heard.judge.lines heard.bytes)
    (λ text. AreWholeLines text all.result.judge.lines all.result.bytes)
    (λ text judged. rw (all.ensures.lines, all.ensures.bytes) (whole_first text heard.judge.lines heard.bytes judged)) c.in-Ok.ensures.heard

pub returns-in-Err-clause-bad : goal.returns-in-Err-clause-bad
returns-in-Err-clause-bad g c = λ n e.
    of_all (g.R.Read.remaining c.args.input.now) (λ text. IsBad None true text n) (λ text. BreaksAt LineFits (whole_lines text) n)
    (λ text bad. bad.breaks) (c.in-Err.ensures.bad n (other_err c.in-Err.fault (fault.BadLine n) e))

pub returns-in-Ok-clause-details : goal.returns-in-Ok-clause-details
returns-in-Ok-clause-details g c =
    let all = c.all_heard in
    let details = c.hear_all.new.details in
    subst (λ (r : Rules). AreDetailsOf r all.result.judge.lines details) (sym all.ensures.rules)
    (subst (λ (ls : List Line). AreDetailsOf c.in-Ok.heard.judge.rules ls details) (sym all.ensures.lines) c.in-Ok.ensures.details)
