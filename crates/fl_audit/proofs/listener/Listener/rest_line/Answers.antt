use Rattle.fl_audit.proofs.Listening.{none_kept}
use Rattle.fl_audit.proofs.listener.Listener.rest_line.Goals as goal

pub returns-else-ends_inside-clause-none : goal.returns-else-ends_inside-clause-none
returns-else-ends_inside-clause-none c = λ none uncut.
    none_kept c.args.self.now.kept (λ some. cc (c.ends_inside.ensures.1 (some, uncut), c.if-ends_inside.false))
