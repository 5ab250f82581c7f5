use Rattle.std.proofs.Common.{◌∙◌, Option, None, List, false, ap, refl, subst}
use Rattle.std.specs.Option.{option_map}
use Rattle.fl_audit.specs.Inside.Hearing.{AreJudged, IsBad}
use Rattle.fl_audit.specs.Inside.Keeping.{Along, along}
use Rattle.fl_audit.specs.Inside.Rowing.{IsOutcome, IsTextOutcome}
use Rattle.fl_audit.specs.Inside.Seams.{end_seen}
use Rattle.fl_audit.specs.Pieces.{End}
use Rattle.fl_audit.specs.declared.finding.AuditFault.TheVariants as fault
use Rattle.fl_audit.proofs.Listening.{of_all, other_err}
use Rattle.fl_audit.proofs.row.hear_piece.Goals as goal
use Rattle.fl_history.specs.declared.history.Line.{Line}
use Rattle.fl_trace.specs.Text.{LineFits, BreaksAt}
use Rattle.fl_waiting.specs.declared.rules.Rules.{Rules}

pub returns-in-Ok-clause-said : goal.returns-in-Ok-clause-said
returns-in-Ok-clause-said g c =
    let heard = c.in-Ok.heard in
    let parts = c.into_parts-judge in
    let out = c.outcome_of.result in
    let end : Option End = option_map (λ e. end_seen e) c.args.before in
    let rules = parts.ensures.rules ∙ c.in-Ok.ensures.rules in
    let own = c.args.piece.now.rules in
    let ends = ap (λ (a : Along). a.end) (parts.ensures.along ∙ c.in-Ok.ensures.along ∙ c.behind-beside.ensures.along) in
    let is : IsOutcome own end heard.judge.lines out =
    subst (λ (ls : List Line). IsOutcome own end ls out) parts.ensures.lines
    (subst (λ (e : Option End). IsOutcome own e parts.result.0.lines out) ends
    (subst (λ (r : Rules). IsOutcome r (along parts.result.1).end parts.result.0.lines out) rules c.outcome_of.ensures)) in
    of_all (g.R.Read.remaining c.args.piece.now.input) (λ text. AreJudged None false text heard.judge.lines heard.bytes)
    (λ text. IsTextOutcome own end text out)
    (λ text judged. record { lines = heard.judge.lines; spelled = judged.whole refl; fits = judged.first.fits; is = is }) c.in-Ok.ensures.heard

pub returns-in-Err-clause-bad : goal.returns-in-Err-clause-bad
returns-in-Err-clause-bad g c = λ n e.
    of_all (g.R.Read.remaining c.args.piece.now.input) (λ text. IsBad None false text n) (λ text. BreaksAt LineFits text n)
    (λ text bad. bad.breaks) (c.in-Err.ensures.bad n (other_err c.in-Err.fault (fault.BadLine n) e))
