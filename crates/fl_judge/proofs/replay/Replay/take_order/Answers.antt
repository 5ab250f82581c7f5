use Rattle.std.proofs.Common.{◌∙◌, ◌&&◌, not, ap, inl, inr, refl}
use Rattle.fl_judge.specs.declared.replay.Replay.{Replay}
use Rattle.fl_judge.specs.declared.replay.Stage.TheVariants as stage
use Rattle.fl_judge.proofs.Heads.{order_early}
use Rattle.fl_judge.proofs.Replays.{lacking, none_is_due, order_on}
use Rattle.fl_judge.proofs.replay.Replay.take_order.Goals as goal

pub returns-then-wants_more-clause-goes : goal.returns-then-wants_more-clause-goes
returns-then-wants_more-clause-goes c =
    order_early c.a_head_leads_to_what_it_tells.ensures.next c.args.self.now c.args.order.now (c.wants_more.ensures.0 c.if-wants_more.true)

pub returns-clause-goes : goal.returns-clause-goes
returns-clause-goes c =
    let after : Replay =
    record { core = c.step.new.self; tolds = c.step.new.tolds; told = 0; quiet = c.stays_quiet-self.result; stage = stage.Taking } in
    λ worker lines up.
    order_on c.an_order_leads_on.ensures.step c.a_legal_history_goes_on_by_orders.ensures.next c.args.self.now after worker c.args.order.now
    (none_is_due _ (λ some. cc (c.wants_more.ensures.1 (inl some), c.if-wants_more.false))) c.step.ensures.next c.step.ensures.replies refl
    (c.stays_quiet-self.ensures ∙ ap (λ asks. c.args.self.now.quiet && not asks) c.asks_while_waiting-asks.ensures) refl lines
    (lacking lines c.args.self.now (λ telling. cc (c.wants_more.ensures.1 (inr telling), c.if-wants_more.false)) up)
