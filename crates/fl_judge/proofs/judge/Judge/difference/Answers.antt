use Rattle.std.proofs.Common.{◌+◌, ap, subst}
use Rattle.fl_judge.specs.Inside.Heard.{Stands}
use Rattle.fl_judge.proofs.Differences.{difference_at, difference_behind}
use Rattle.fl_judge.proofs.Verdicts.{legal_none}
use Rattle.fl_judge.proofs.judge.Judge.difference.Goals as goal

pub returns-in-Some : goal.returns-in-Some
returns-in-Some c =
    difference_at c.self.inside.past.items c.args.self.now c.self.inside.replay c.self.inside.differs c.self.inside.found c.due-due.result c.in-Some.number
    c.self.view_is c.in-Some.is c.due-due.ensures.is c.self.invariant.0.stands c.self.invariant.1.stopped

pub returns-then-wants_more : goal.returns-then-wants_more
returns-then-wants_more c =
    difference_behind c.a_head_leads_to_what_it_tells.ensures.next c.self.inside.past.items c.args.self.now c.self.inside.replay c.due-due.result
    (c.self.inside.heard + 1) c.self.view_is (ap (λ n. n + 1) c.self.invariant.0.count) c.due-due.ensures.is (c.wants_more.ensures.0 c.if-wants_more.true)
    (subst (Stands c.self.inside.past.items c.self.inside.replay) c.in_default.is c.self.invariant.0.stands)

pub returns-else-wants_more : goal.returns-else-wants_more
returns-else-wants_more c =
    legal_none c.self.inside.past.items c.args.self.now c.self.inside.replay c.self.view_is (λ wants. cc (c.wants_more.ensures.1 wants, c.if-wants_more.false))
    (subst (Stands c.self.inside.past.items c.self.inside.replay) c.in_default.is c.self.invariant.0.stands)
