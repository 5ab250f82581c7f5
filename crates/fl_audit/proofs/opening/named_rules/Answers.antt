use Rattle.fl_history.specs.declared.history.Line.TheVariants as line
use Rattle.fl_order.specs.declared.state_part.StateLine.TheVariants as state
use Rattle.fl_audit.proofs.OpeningLemmas.{by_line}
use Rattle.fl_audit.proofs.opening.named_rules.Goals as goal

pub returns-in-Some : goal.returns-in-Some
returns-in-Some c =
    by_line c.args.text.now c.in-Some.line c.in-Some.field-0-1.now c.line_rules.result c.in-Some.ensures.fits
    c.in-Some.ensures.spelled (λ other rest fits e. (c.in-Some.ensures.only other rest fits e).0)
    c.line_rules.ensures.some c.line_rules.ensures.none

pub returns-in-None : goal.returns-in-None
returns-in-None c = λ rules b. c.in-None.ensures.only (line.State (state.Head b.head)) b.rest b.fits b.spelled
