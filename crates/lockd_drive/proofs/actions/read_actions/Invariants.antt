use Rattle.std.proofs.Common.{length}
use Rattle.lockd_drive.proofs.ActionLemmas.{IsReadSoFar}
use Rattle.lockd_drive.proofs.actions.read_actions.Given as goal

abbrev pub invariant-loop-rest : goal.invariant-loop-rest
invariant-loop-rest l = IsReadSoFar l.text l.actions.items l.rest l.number

abbrev pub decreases-loop-rest : goal.decreases-loop-rest
decreases-loop-rest l = length l.rest
