use Rattle.fl_dir.specs.Inside.Next.{IsNext, linked_before}
use Rattle.fl_dir.proofs.dir.Dir.next_on_chains.Given as goal

abbrev pub invariant-loop-chain : goal.invariant-loop-chain
invariant-loop-chain l = IsNext (linked_before l.nodes l.chain) l.from l.least
