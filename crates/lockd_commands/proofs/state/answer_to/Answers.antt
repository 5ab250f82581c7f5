use Rattle.std.proofs.Common.{rules}
use Rattle.lockd_commands.proofs.state.answer_to.Goals as goal

pub returns-in-Err-clause-bad : goal.returns-in-Err-clause-bad
returns-in-Err-clause-bad g c = λ n is. c.in-Err.ensures.bad n (search rules)
