use Rattle.std.proofs.Common.{map, take}
use Rattle.lockd_drive.specs.Drive.Inside.{said_by, HasDone}
use Rattle.lockd_drive.proofs.exchange.drive_over.Given as goal

-- what the actions so far say is done
abbrev pub invariant-loop-action : goal.invariant-loop-action
invariant-loop-action g l =
    HasDone (map said_by (take l.action-index l.actions)) (g.R.Read.remaining l.initial.replies) (g.R.Read.remaining l.replies)
    (g.W.Write.contents l.initial.requests) (g.W.Write.contents l.requests)
    (g.O.Write.contents l.initial.output) (g.O.Write.contents l.output)
