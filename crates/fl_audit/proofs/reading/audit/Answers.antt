use Rattle.std.proofs.Common.{◌≡◌, ◌∙◌, ◌↔◌, Option, None, List, ℕ, true, refl, ap, subst}
use Rattle.std.proofs.lemmas.Option.{IfSome_then}
use Rattle.fl_audit.proofs.Listening.{of_all, if_known, other_err}
use Rattle.fl_audit.proofs.reading.audit.Goals as goal
use Rattle.fl_audit.specs.Audit.{judged_part, IsFinding}
use Rattle.fl_audit.specs.Details.{AreDetailsIn, AreDetailsOf}
use Rattle.fl_audit.specs.First.{IsSoOfAll}
use Rattle.fl_audit.specs.Inside.Hearing.{AreJudged, IsBad}
use Rattle.fl_audit.specs.declared.finding.AuditFault.TheVariants as fault
use Rattle.fl_trace.specs.Text.{LineFits, BreaksAt}
use Rattle.fl_judge.specs.Quiet.{IsQuiet}
use Rattle.fl_judge.specs.Verdicts.{IsBeginning}
use Rattle.fl_history.specs.declared.history.Line.{Line}
use Rattle.fl_waiting.specs.declared.rules.Rules.{Rules}

pub returns-in-Ok-clause-audited : goal.returns-in-Ok-clause-audited
returns-in-Ok-clause-audited g c =
    let left : Option (List ℕ) = g.R.Read.remaining c.args.input.now in
    let cut = c.args.cut in
    let lines : List Line = c.in-Ok.heard.judge.lines in
    let so : IsSoOfAll left (λ text. AreJudged None cut text lines c.in-Ok.heard.bytes) = c.in-Ok.ensures.heard in
    let judge = c.into_parts-judge in
    let rules : judge.result.0.rules ≡ c.args.rules = judge.ensures.rules ∙ c.in-Ok.ensures.rules in
    let same : judge.result.0.lines ≡ lines = judge.ensures.lines in
    record {
      trace = judged_part cut so.text;
      read = IfSome_then left so.read (λ bytes same. ap (judged_part cut) same);
      said = record {
        lines = lines;
        spelled = so.is.whole refl;
        fits = so.is.first.fits;
        found = subst (λ (ls : List Line). IsFinding c.args.rules cut ls c.finding_of.result) same
            (subst (λ (r : Rules). IsFinding r cut judge.result.0.lines c.finding_of.result) rules c.finding_of.ensures);
        quiet = subst (λ (ls : List Line). (c.quiet.result ≡ true) ↔ (IsBeginning c.args.rules ls × IsQuiet c.args.rules ls)) same
            (subst (λ (r : Rules). (c.quiet.result ≡ true) ↔ (IsBeginning r judge.result.0.lines × IsQuiet r judge.result.0.lines)) rules
            c.quiet.ensures.exact);
      };
    }

pub returns-in-Err-clause-bad : goal.returns-in-Err-clause-bad
returns-in-Err-clause-bad g c = λ n e.
    let left : Option (List ℕ) = g.R.Read.remaining c.args.input.now in
    let bad : IsSoOfAll left (λ text. IsBad None c.args.cut text n) = c.in-Err.ensures.bad n (other_err c.in-Err.fault (fault.BadLine n) e) in
    if_known left (λ bytes. BreaksAt LineFits (judged_part c.args.cut bytes) n)
    (of_all left (λ text. IsBad None c.args.cut text n) (λ text. BreaksAt LineFits (judged_part c.args.cut text) n) (λ text b. b.breaks) bad)

pub returns-in-Ok-clause-details : goal.returns-in-Ok-clause-details
returns-in-Ok-clause-details g c =
    let left : Option (List ℕ) = g.R.Read.remaining c.args.input.now in
    let cut = c.args.cut in
    let lines : List Line = c.in-Ok.heard.judge.lines in
    let details = c.hear_all.new.details in
    of_all left (λ text. AreJudged None cut text lines c.in-Ok.heard.bytes) (λ text. AreDetailsIn c.args.rules (judged_part cut text) details)
    (λ text judged. record {
      lines = lines;
      spelled = judged.whole refl;
      fits = judged.first.fits;
      are = subst (λ (r : Rules). AreDetailsOf r lines details) c.in-Ok.ensures.rules c.in-Ok.ensures.details;
    }) c.in-Ok.ensures.heard
