use Rattle.lockd_faults.proofs.WriteLemmas.{IsWrittenTo}
use Rattle.lockd_faults.proofs.streams.begin.Given as goal

-- what stands before the rest is written
abbrev pub invariant-loop : goal.invariant-loop
invariant-loop g l = IsWrittenTo l.text l.rest (g.W.Write.contents l.initial.output) (g.W.Write.contents l.output)
