use Rattle.std.proofs.Common.{length}
use Rattle.lockd_commands.proofs.ScriptLemmas.{IsReadSoFar}
use Rattle.lockd_commands.proofs.script.read_asks.Given as goal

abbrev pub invariant-loop-rest : goal.invariant-loop-rest
invariant-loop-rest l = IsReadSoFar l.script l.asks.items l.rest

abbrev pub decreases-loop-rest : goal.decreases-loop-rest
decreases-loop-rest l = length l.rest
