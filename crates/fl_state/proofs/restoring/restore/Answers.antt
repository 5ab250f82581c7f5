use Rattle.std.proofs.Common.{◌∙◌, sym, ap}
use Rattle.fl_core.specs.Restored.{a_lock, fits}
use Rattle.fl_order.specs.declared.state_part.StatePart.{StatePart}
use Rattle.fl_state.specs.Parts.{part_of}
use Rattle.fl_state.proofs.restoring.restore.Goals as goal

pub returns-in-Lock-clause-fits : goal.returns-in-Lock-clause-fits
returns-in-Lock-clause-fits c =
    let here = c.in-Lock in
    c.restore_lock.ensures.fits
    ∙ (λ i. fits c.args.core.now (a_lock (record {
      key = record { class = c.class_of-class.ensures i; node = here.node; owner = here.owner };
      start = here.start;
      end = here.end;
      mark = record { kind = c.kind_of-kind.ensures i; pid = here.pid };
    })))
    ∙ sym (ap (λ (part : StatePart). fits c.args.core.now (part_of part)) here.is)
