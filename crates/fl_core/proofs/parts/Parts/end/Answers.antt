use Rattle.std.proofs.Common.{not, sym, subst}
use Rattle.fl_core.specs.Inside.Touched.{OthersWait}
use Rattle.fl_core.specs.Replies.{picks}
use Rattle.fl_core.specs.State.{Snapshot}
use Rattle.fl_core.proofs.Waits.{anything_may, others_wait_left}
use Rattle.fl_core.proofs.parts.Parts.end.Goals as goal
use Rattle.fl_core.proofs.parts.Parts.end.Goals.{else-self-via-then-self+else-ended, else-self-via-else-self}

pub returns-then-ended-clause-others : goal.returns-then-ended-clause-others
returns-then-ended-clause-others c all = anything_may c.self.inside.rules c.self.inside.locks.marking c.end_all-ended.new.parked

pub returns-clause-others : goal.returns-clause-others
returns-clause-others c all =
    let rules = c.self.inside.rules in
    let m = c.self.inside.locks.marking in
    let before : OthersWait c.args.touched rules m c.self.inside.parked =
    subst (λ (t : Snapshot). OthersWait c.args.touched t.rules t.marking t.view.parked) (sym c.self.view_is) all in
    elim c.else-self.branch [
      | else-self-via-then-self+else-ended w ↦
          subst (OthersWait c.args.touched rules m) (sym (c.end_all-ended.ensures.any w.if-ended.false)) before
      | else-self-via-else-self w ↦
          subst (OthersWait c.args.touched rules m) (sym c.end_all-ended.ensures.parked)
          (others_wait_left c.args.touched rules m (λ r. not (picks c.in-Some.ending r)) c.self.inside.parked w.if-self.false before)
    ]
