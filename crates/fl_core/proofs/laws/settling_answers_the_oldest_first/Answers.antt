use Rattle.fl_core.proofs.Settlings.{settling_told, nothing_told, nothing_left}
use Rattle.fl_core.proofs.laws.settling_answers_the_oldest_first.Goals as goal

pub returns-clause-told : goal.returns-clause-told
returns-clause-told c = settling_told

pub returns-clause-nothing : goal.returns-clause-nothing
returns-clause-nothing c = nothing_told

pub returns-clause-ends : goal.returns-clause-ends
returns-clause-ends c = nothing_left
