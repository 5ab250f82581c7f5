use Rattle.fl_desk.specs.Replay.{state_after}
use Rattle.lockd_serve.proofs.PlainLemmas.{no_order, none_known, plain_bytes, plain_refused, said_alike}
use Rattle.lockd_serve.proofs.session_laws.a_session_that_is_not_whole_knows_nothing_more.Goals as goal

pub returns : goal.returns
returns c = record {
  no_order = no_order;
  alike = said_alike;
  unknown = none_known;
  plain = λ rules lines response. plain_bytes rules (state_after rules lines).view.directory response;
  refused = λ rules lines. plain_refused rules (state_after rules lines).view.directory;
}
