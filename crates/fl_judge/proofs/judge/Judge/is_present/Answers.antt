use Rattle.fl_judge.proofs.Verdicts.{present_exactly}
use Rattle.fl_judge.proofs.judge.Judge.is_present.Goals as goal

pub returns-then-begins : goal.returns-then-begins
returns-then-begins c =
    present_exactly c.a_head_leads_to_what_it_tells.ensures.next c.self.inside.past.items c.args.self.now c.self.inside.replay c.self.inside.differs
    c.is_telling.result c.self.view_is (c.begins.ensures.0 c.if-begins.true) c.is_telling.ensures c.self.invariant.0.stands
