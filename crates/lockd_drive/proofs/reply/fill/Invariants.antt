use Rattle.std.proofs.Common.{◌-◌}
use Rattle.lockd_drive.proofs.FillLemmas.{IsFilledTo}
use Rattle.lockd_drive.proofs.reply.fill.Given as goal

abbrev pub invariant-loop-at : goal.invariant-loop-at
invariant-loop-at g l =
    IsFilledTo l.from l.to l.at l.initial.room l.room (g.R.Read.remaining l.initial.input) (g.R.Read.remaining l.input)

abbrev pub decreases-loop-at : goal.decreases-loop-at
decreases-loop-at g l = l.to - l.at
