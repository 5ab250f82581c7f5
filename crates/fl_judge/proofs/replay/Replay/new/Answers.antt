use Rattle.std.proofs.Common.{[], refl, subst, sym}
use Rattle.fl_core.specs.State.{Snapshot}
use Rattle.fl_desk.specs.Leading.{LeadsTo}
use Rattle.fl_judge.proofs.Replays.{opens}
use Rattle.fl_judge.proofs.replay.Replay.new.Goals as goal

pub returns-clause-leads : goal.returns-clause-leads
returns-clause-leads c =
    opens _ refl (subst (λ (p : Snapshot). LeadsTo [] p) (sym c.in_ok-new.ensures.opening) (c.an_order_leads_on.ensures.nothing c.args.rules))
    c.in_ok-new-2.ensures.none refl
