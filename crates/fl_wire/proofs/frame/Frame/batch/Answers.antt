use Rattle.std.proofs.Common.{◌≡◌, ◌↔◌, ◌∙◌, Err, IsSome, ap, subst, sym}
use Rattle.fl_order.specs.declared.refusal.Refusal.TheVariants.{Batch}
use Rattle.fl_wire.proofs.BatchMessages.{batch_reads_back}
use Rattle.fl_wire.proofs.Batches.{batch_is_said}
use Rattle.fl_wire.specs.Batch.{batch_in}
use Rattle.fl_wire.specs.Says.{said}
use Rattle.fl_wire.proofs.frame.Frame.batch.Goals as goal

pub returns-clause-said : goal.returns-clause-said
returns-clause-said c =
    let bytes = c.args.self.now in
    let is = c.of.ensures ∙ ap batch_in c.self.view_is in
    subst (λ batch. IsSome batch ↔ (said bytes ≡ Err Batch)) (sym is) (batch_is_said bytes)

pub returns-clause-back : goal.returns-clause-back
returns-clause-back c =
    batch_reads_back c.args.self.now c.of.result (c.of.ensures ∙ ap batch_in c.self.view_is)
