use Rattle.std.proofs.Common.{length}
use Rattle.lockd_commands.proofs.ReplyLemmas.{TellsSoFar}
use Rattle.lockd_commands.proofs.bytes.replies.print_replies.Given as goal

abbrev pub invariant-loop-rest : goal.invariant-loop-rest
invariant-loop-rest l = TellsSoFar l.sent l.rest l.lines.items

abbrev pub decreases-loop-rest : goal.decreases-loop-rest
decreases-loop-rest l = length l.rest
