use Rattle.fl_judge.proofs.judge.Judge.verdict.Goals as goal

pub returns-in-Some : goal.returns-in-Some
returns-in-Some c = c.in-Some.ensures.differs
