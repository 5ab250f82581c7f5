use Rattle.std.proofs.Common.{◌∙◌, sym, subst}
use Rattle.fl_audit.specs.Inside.Seams.{end_seen, IsFollowed}
use Rattle.fl_audit.proofs.Joints.{break_empty, break_going, breaks_seam}
use Rattle.fl_audit.proofs.seam.Seam.first_break.Goals as goal

pub returns-then-heard-eq0 : goal.returns-then-heard-eq0
returns-then-heard-eq0 c =
    break_empty c.args.judge.now.rules (end_seen c.args.self.now.end) c.args.judge.now.lines (sym c.heard.ensures ∙ c.if-heard-eq0.true)

pub returns-in-Some : goal.returns-in-Some
returns-in-Some c =
    let rules = c.args.judge.now.rules in
    let lines = c.args.judge.now.lines in
    let end = end_seen c.args.self.now.end in
    breaks_seam rules end lines c.in-Some.line (subst (IsFollowed rules end lines) c.in-Some.is c.requires)

pub returns-in-None : goal.returns-in-None
returns-in-None c =
    let rules = c.args.judge.now.rules in
    let lines = c.args.judge.now.lines in
    let end = end_seen c.args.self.now.end in
    break_going rules end lines c.first_difference.result (λ e. c.if-heard-eq0.false (c.heard.ensures ∙ e))
    (subst (IsFollowed rules end lines) c.in-None.is c.requires) c.first_difference.ensures
