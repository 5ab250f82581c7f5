use Rattle.std.proofs.Common.{◌∙◌, sym, refl}
use Rattle.fl_audit.specs.Inside.Seams.{end_seen}
use Rattle.fl_audit.proofs.Joints.{first_line, plain_line, head_line}
use Rattle.fl_audit.proofs.seam.Seam.goes_on.Goals as goal

pub returns-then-heard-eq1 : goal.returns-then-heard-eq1
returns-then-heard-eq1 c = λ lines is going.
    first_line c.args.judge.now.rules (end_seen c.args.self.now.end) c.args.judge.now.lines lines c.args.line.now c.begins.result is
    (sym c.heard.ensures ∙ c.if-heard-eq1.true) going c.begins.ensures

pub returns-in-Some : goal.returns-in-Some
returns-in-Some c = λ lines is going.
    let rules = c.args.judge.now.rules in
    let all = c.args.judge.now.lines in
    head_line rules (end_seen c.args.self.now.end) all lines c.args.line.now c.in-Some.core.now c.have_same.result is
    (λ e. c.if-heard-eq1.false (c.heard.ensures ∙ e)) going (c.in-Some.ensures.some.0 refl) c.in-Some.ensures.is
    (c.a_legal_history_goes_on_by_orders.ensures.rules rules all) c.have_same.ensures.equal c.have_same.ensures.is

pub returns-in-None : goal.returns-in-None
returns-in-None c = λ lines is going.
    plain_line c.args.judge.now.rules (end_seen c.args.self.now.end) c.args.judge.now.lines lines c.args.line.now is
    (λ e. c.if-heard-eq1.false (c.heard.ensures ∙ e)) going (λ h. cc (c.in-None.ensures.some.1 h))
