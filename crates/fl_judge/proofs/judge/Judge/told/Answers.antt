use Rattle.fl_desk.specs.Legal.{headed}
use Rattle.fl_judge.proofs.Alone.{legal_is}
use Rattle.fl_judge.proofs.judge.Judge.told.Goals as goal

pub returns-then-has_told-clause-is : goal.returns-then-has_told-clause-is
returns-then-has_told-clause-is c =
    legal_is c.self.inside.past.items c.args.self.now c.self.inside.replay c.self.inside.differs c.self.view_is
    (c.has_told.ensures.present c.if-has_told.true) (headed (c.has_told.ensures.told.0 c.if-has_told.true)) c.self.invariant.0.stands
