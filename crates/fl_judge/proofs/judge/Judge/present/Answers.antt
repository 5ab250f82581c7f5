use Rattle.fl_judge.proofs.Verdicts.{present_then}
use Rattle.fl_judge.proofs.judge.Judge.present.Goals as goal

pub returns-then-is_present-clause-is : goal.returns-then-is_present-clause-is
returns-then-is_present-clause-is c =
    present_then c.self.inside.past.items c.args.self.now c.self.inside.replay c.self.inside.differs c.self.view_is
    (c.is_present.ensures.0 c.if-is_present.true) c.self.invariant.0.stands
