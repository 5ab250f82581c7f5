use Rattle.lockd_serve.proofs.AlikeLemmas.{go_on}
use Rattle.lockd_serve.proofs.session_laws.sessions_with_one_state_go_on_alike.Goals as goal

pub returns : goal.returns
returns c s t came alike = go_on c.an_order_leads_on.ensures.step s t came alike
