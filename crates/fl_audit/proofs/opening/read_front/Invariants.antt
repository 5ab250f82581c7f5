use Rattle.fl_audit.proofs.OpeningLemmas.{IsFilled}
use Rattle.fl_audit.proofs.opening.read_front.Given as goal

abbrev pub invariant-loop : goal.invariant-loop
invariant-loop g l = IsFilled (g.R.Read.remaining l.initial.input) (g.R.Read.remaining l.input) l.bytes l.room
