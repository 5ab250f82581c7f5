use Rattle.std.proofs.Common.{ap, refl, sym, ◌∙◌}
use Rattle.fl_session.specs.declared.done.Done.{Done}
use Rattle.fl_session.proofs.session.run_session.Goals as goal

pub returns-clause-stored : goal.returns-clause-stored
returns-clause-stored g c is =
    c.record_session-recorded.ensures.stored refl (sym (ap (λ (d : Done). d.fault) c.into_done-done.ensures.is) ∙ is)
