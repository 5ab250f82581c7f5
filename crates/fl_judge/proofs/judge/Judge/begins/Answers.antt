use Rattle.fl_judge.proofs.Verdicts.{begins_exactly}
use Rattle.fl_judge.proofs.judge.Judge.begins.Goals as goal

pub returns : goal.returns
returns c =
    begins_exactly c.self.inside.past.items c.args.self.now c.self.inside.replay c.self.inside.differs c.is_none.result c.self.view_is c.is_none.ensures
    c.self.invariant.0.stands
