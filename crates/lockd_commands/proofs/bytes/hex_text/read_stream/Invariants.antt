use Rattle.std.proofs.Common.{length}
use Rattle.lockd_commands.proofs.HexLemmas.{IsReadSoFar}
use Rattle.lockd_commands.proofs.bytes.hex_text.read_stream.Given as goal

abbrev pub invariant-loop-rest : goal.invariant-loop-rest
invariant-loop-rest l = IsReadSoFar l.text l.stream.items l.rest l.number

abbrev pub decreases-loop-rest : goal.decreases-loop-rest
decreases-loop-rest l = length l.rest
