use Rattle.std.proofs.Common.{◌∙◌, sym, subst, ap, arith}
use Rattle.fl_core.specs.Effects.{at_once, made}
use Rattle.fl_core.specs.State.{Snapshot}
use Rattle.fl_core.proofs.Nexts.{next_waits, next_apart}
use Rattle.fl_core.proofs.Replays.{alone_made}
use Rattle.fl_core.proofs.state.Core.replay.Goals as goal
use Rattle.fl_waiting.specs.Waiting.{AllWait, AreApart}

all : (c : goal.Else-not-replay) → AllWait c.args.self.now.rules c.args.self.now.marking c.args.self.now.view.parked
all c = subst (λ (t : Snapshot). AllWait t.rules t.marking t.view.parked) c.self.view_is c.self.invariant.0

apart : (c : goal.Else-not-replay) → AreApart c.args.self.now.view.parked
apart c = subst (λ (t : Snapshot). AreApart t.view.parked) c.self.view_is c.self.invariant.1

pub returns-else-not-replay-clause-next : goal.returns-else-not-replay-clause-next
returns-else-not-replay-clause-next c =
    c.replay.ensures.made c.if-not-replay.false ∙ ap (made (at_once c.args.order.now c.args.reply.now)) c.self.view_is
    ∙ alone_made c.args.order.now c.args.reply.now c.args.self.now c.requires.alone (all c) (apart c)

pub invariant_of-self-else-not-replay : goal.invariant_of-self-else-not-replay
invariant_of-self-else-not-replay c =
    let order = c.args.order.now in
    let p : Snapshot = c.args.self.now in
    let both = subst (λ (t : Snapshot). AllWait t.rules t.marking t.view.parked × AreApart t.view.parked) (sym (returns-else-not-replay-clause-next c))
    (next_waits p order, next_apart p order (all c) (apart c)) in (
      both.0,
      both.1,
      omega (
        arith,
        c.replay.ensures.few c.if-not-replay.false c.self.invariant.2,
        ap (λ (t : Snapshot). t.rules.parked) (c.replay.ensures.made c.if-not-replay.false),
      ),
    )
