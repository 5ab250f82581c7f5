use Rattle.fl_judge.proofs.Verdicts.{quiet_then, quiet_else}
use Rattle.fl_judge.proofs.judge.Judge.quiet.Goals as goal

pub returns-then-is_none-clause-exact : goal.returns-then-is_none-clause-exact
returns-then-is_none-clause-exact c =
    quiet_then c.self.inside.past.items c.args.self.now c.self.inside.replay c.self.inside.differs c.self.view_is c.if-is_none.ensures
    c.self.invariant.0.stands

pub returns-then-is_none-clause-no_circle : goal.returns-then-is_none-clause-no_circle
returns-then-is_none-clause-no_circle c = λ quiet calm.
    c.quiet_histories_have_no_circle.ensures.calm c.args.self.now.rules c.args.self.now.lines
    ((quiet_then c.self.inside.past.items c.args.self.now c.self.inside.replay c.self.inside.differs c.self.view_is c.if-is_none.ensures
    c.self.invariant.0.stands).0 quiet).1 calm

pub returns-else-is_none-clause-exact : goal.returns-else-is_none-clause-exact
returns-else-is_none-clause-exact c =
    quiet_else c.self.inside.past.items c.args.self.now c.self.inside.replay c.self.inside.differs c.is_none.result c.self.view_is c.if-is_none.ensures
    c.is_none.ensures c.self.invariant.0.stands
