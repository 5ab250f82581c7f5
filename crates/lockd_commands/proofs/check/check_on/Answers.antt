use Rattle.lockd_commands.proofs.CheckLemmas.{never_begins}
use Rattle.lockd_commands.proofs.check.check_on.Goals as goal

pub returns-in-Ok-Begins-clause-legal : goal.returns-in-Ok-Begins-clause-legal
returns-in-Ok-Begins-clause-legal g c = λ _ uncut.
    absurd (never_begins c.args.rules c.args.options _ _ _ uncut (rw c.in-Ok-Begins.field-0-is at c.in-Ok-Begins.ensures.judged))
