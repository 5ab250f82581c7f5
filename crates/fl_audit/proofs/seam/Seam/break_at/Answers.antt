use Rattle.std.proofs.Common.{Bool, ℕ, sym, subst}
use Rattle.fl_audit.specs.Inside.Seams.{end_seen, GoesOrStops, StopsAt}
use Rattle.fl_audit.proofs.seam.Seam.break_at.Goals as goal

pub returns-else-goes_on : goal.returns-else-goes_on
returns-else-goes_on c = λ lines is going.
    let rules = c.args.judge.now.rules in
    let end = end_seen c.args.self.now.end in
    let all = c.args.judge.now.lines in
    subst (λ (n : ℕ). StopsAt rules end all n) (sym c.heard.ensures)
    (subst (λ (b : Bool). GoesOrStops rules end all b) c.if-goes_on.false (c.goes_on.ensures lines is going))
