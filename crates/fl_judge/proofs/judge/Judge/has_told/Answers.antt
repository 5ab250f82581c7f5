use Rattle.fl_judge.proofs.Alone.{is_head, head_asks, head_present}
use Rattle.fl_judge.proofs.judge.Judge.has_told.Goals as goal

pub returns-then-asks_nothing-clause-told : goal.returns-then-asks_nothing-clause-told
returns-then-asks_nothing-clause-told c =
    let now = c.args.self.now in (
      λ yes. is_head now (c.asks_nothing.ensures.0 c.if-asks_nothing.true) (c.is_present.ensures.0 yes),
      λ head. c.is_present.ensures.1 (head_present c.a_head_leads_to_what_it_tells.ensures.next now.rules now.lines head),
    )

pub returns-else-asks_nothing-clause-told : goal.returns-else-asks_nothing-clause-told
returns-else-asks_nothing-clause-told c =
    let now = c.args.self.now in (
      λ yes. absurd (cc (yes, c.if-asks_nothing.false)),
      λ head. absurd (cc (c.asks_nothing.ensures.1 (head_asks now.rules now.lines head), c.if-asks_nothing.false)),
    )
