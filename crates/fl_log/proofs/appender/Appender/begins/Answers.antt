use Rattle.fl_log.proofs.Counts.{most_of}
use Rattle.fl_log.proofs.appender.Appender.begins.Goals as goal

pub returns : goal.returns
returns g c = λ test.
    rw (← c.self.view_is) (most_of g.E.Entry.author _ c.args.log.now c.self.invariant.1 (c.begins.ensures.begins.0 test))
