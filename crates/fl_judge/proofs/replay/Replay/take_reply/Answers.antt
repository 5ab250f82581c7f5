use Rattle.std.proofs.Common.{◌+◌, refl}
use Rattle.fl_judge.specs.declared.replay.Replay.{Replay}
use Rattle.fl_judge.proofs.Heads.{reply_wrong}
use Rattle.fl_judge.proofs.Replays.{told_on}
use Rattle.fl_judge.proofs.replay.Replay.take_reply.Goals as goal

pub returns-then-not-is_due-clause-goes : goal.returns-then-not-is_due-clause-goes
returns-then-not-is_due-clause-goes c =
    reply_wrong c.a_legal_history_goes_on_by_orders.ensures.next c.a_head_leads_to_what_it_tells.ensures.next c.args.self.now c.args.told.now
    (λ is. cc (c.is_due.ensures.is.1 is, c.if-not-is_due.true))

pub returns-clause-goes : goal.returns-clause-goes
returns-clause-goes c =
    let after : Replay = record c.args.self.now { told = c.args.self.now.told + 1 } in
    told_on c.args.self.now after c.args.told.now (c.is_due.ensures.is.0 c.if-not-is_due.false) refl refl refl refl refl
