use Rattle.std.proofs.Common.{inr}
use Rattle.lockd_serve.proofs.serve.serve_on.Goals as goal

pub returns-clause-over : goal.returns-clause-over
returns-clause-over g c = λ somebody. (_, c.serve_stream-served.ensures.over (λ none. somebody (inr none)))
