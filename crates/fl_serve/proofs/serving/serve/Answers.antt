use Rattle.std.proofs.Common.{ap, sym, subst, ◌∙◌}
use Rattle.fl_desk.specs.Legal.{IsLegalFromNothing}
use Rattle.fl_serve.proofs.ServingLemmas.{begun_lines}
use Rattle.fl_session.specs.Recorded.{journal_lines}
use Rattle.fl_session.specs.declared.done.Done.{Done}
use Rattle.fl_serve.proofs.serving.serve.Goals as goal

pub returns : goal.returns
returns g c =
    let made = c.new-staff.ensures in
    let recorded = rw made.1 at (rw made.0 at c.record_with_workers.ensures) in
    let is = c.into_done.ensures.is in
    let told = sym (ap (λ (d : Done). d.fault) is) in
    let legal = subst (IsLegalFromNothing c.args.rules) (sym (ap (λ (d : Done). d.history) is)) (begun_lines _ _ _ recorded.legal) in
    record {
      legal = legal;
      lawful = (c.a_legal_history_goes_on_by_orders.ensures.leads _ _ legal.0).lawful;
      served = rw is recorded.served;
      nothing = λ memory.
          let gone = recorded.nothing (told ∙ memory) in
          (ap (λ (d : Done). d.history) is ∙ ap (journal_lines _) gone.0, gone.1);
      unwritten = λ memory. recorded.unwritten (told ∙ memory);
      untold = λ reader. ap (λ (d : Done). d.history) is ∙ ap (journal_lines _) (recorded.untold (told ∙ reader));
    }
