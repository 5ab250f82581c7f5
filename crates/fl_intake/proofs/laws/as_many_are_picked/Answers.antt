use Rattle.std.proofs.Common.{cond}
use Rattle.fl_intake.proofs.laws.as_many_are_picked.Goals as goal

pub returns : goal.returns
returns c = λ xs ys same picks. same (λ x. cond (picks x) 1 0)
