use Rattle.std.proofs.Common.{[]}
use Rattle.lockd_drive.specs.Drive.Inside.{HasReceived}
use Rattle.lockd_drive.proofs.exchange.print_next.Given as goal

-- as many replies are printed as rounds are over
abbrev pub invariant-loop : goal.invariant-loop
invariant-loop g l =
    HasReceived l.counter [] (g.R.Read.remaining l.initial.replies) (g.R.Read.remaining l.replies)
    (g.O.Write.contents l.initial.output) (g.O.Write.contents l.output)
