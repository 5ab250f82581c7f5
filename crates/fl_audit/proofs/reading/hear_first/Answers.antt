use Rattle.std.proofs.Common.{Option, List, ℕ, true, refl, sym, subst}
use Rattle.fl_audit.proofs.Listening.{of_all, other_err}
use Rattle.fl_audit.proofs.reading.hear_first.Goals as goal
use Rattle.fl_history.specs.declared.history.Line.{Line}
use Rattle.fl_audit.specs.Audit.{whole_lines}
use Rattle.fl_audit.specs.Details.{AreDetailsOf}
use Rattle.fl_audit.specs.First.{AreFirstLines, IsWithin}
use Rattle.fl_audit.specs.Inside.Hearing.{AreJudged, IsBad}
use Rattle.fl_audit.specs.declared.finding.AuditFault.TheVariants as fault
use Rattle.fl_trace.specs.Text.{LineFits, BreaksAt}
use Rattle.fl_waiting.specs.declared.rules.Rules.{Rules}

pub returns-in-Ok-clause-heard : goal.returns-in-Ok-clause-heard
returns-in-Ok-clause-heard g c =
    let heard = c.in-Ok.heard in
    let judge = c.into_parts-judge in
    of_all (g.R.Read.remaining c.args.input.now) (λ text. AreJudged c.args.most true text heard.judge.lines heard.bytes)
    (λ text. AreFirstLines c.args.most text judge.result.0.lines)
    (λ text judged. subst (AreFirstLines c.args.most text) (sym judge.ensures.lines) judged.first) c.in-Ok.ensures.heard

pub returns-in-Err-clause-bad : goal.returns-in-Err-clause-bad
returns-in-Err-clause-bad g c = λ n e.
    let left : Option (List ℕ) = g.R.Read.remaining c.args.input.now in
    of_all left (λ text. IsBad c.args.most true text n) (λ text. BreaksAt LineFits (whole_lines text) n × IsWithin c.args.most n)
    (λ text bad. (bad.breaks, bad.within refl)) (c.in-Err.ensures.bad n (other_err c.in-Err.fault (fault.BadLine n) e))

pub returns-in-Ok-clause-details : goal.returns-in-Ok-clause-details
returns-in-Ok-clause-details g c =
    let judge = c.into_parts-judge in
    let details = c.hear_all.new.details in
    subst (λ (r : Rules). AreDetailsOf r judge.result.0.lines details) (sym judge.ensures.rules)
    (subst (λ (ls : List Line). AreDetailsOf c.in-Ok.heard.judge.rules ls details) (sym judge.ensures.lines) c.in-Ok.ensures.details)
