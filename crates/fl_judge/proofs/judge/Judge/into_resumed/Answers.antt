use Rattle.fl_judge.proofs.Alone.{legal_is}
use Rattle.fl_judge.proofs.Verdicts.{kept_then}
use Rattle.fl_judge.proofs.judge.Judge.into_resumed.Goals as goal

pub returns-clause-kept : goal.returns-clause-kept
returns-clause-kept c =
    kept_then c.self.inside.past.items c.args.self c.self.inside.replay c.self.inside.differs c.self.view_is
    (c.is_present.ensures.0 c.if-not-is_present.false) c.self.invariant.0.stands

pub returns-clause-legal : goal.returns-clause-legal
returns-clause-legal c = λ legal.
    legal_is c.self.inside.past.items c.args.self c.self.inside.replay c.self.inside.differs c.self.view_is
    (c.is_present.ensures.0 c.if-not-is_present.false) legal c.self.invariant.0.stands
