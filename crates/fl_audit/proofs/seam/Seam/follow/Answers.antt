use Rattle.std.proofs.Common.{sym, subst}
use Rattle.fl_audit.specs.Inside.Seams.{end_seen, IsFollowed}
use Rattle.fl_audit.proofs.Joints.{follows}
use Rattle.fl_audit.proofs.seam.Seam.follow.Goals as goal

pub returns-in-Some-clause-followed : goal.returns-in-Some-clause-followed
returns-in-Some-clause-followed c = λ lines is so.
    let rules = c.args.judge.now.rules in
    let end = end_seen c.args.self.now.end in
    let all = c.args.judge.now.lines in
    subst (IsFollowed rules end all) (sym c.in-Some.is)
    (follows rules end all lines c.args.line.now c.in-Some.field-0 is (subst (IsFollowed rules end lines) c.in-Some.is so))
