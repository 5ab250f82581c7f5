use Rattle.std.proofs.Common.{◌∙◌, ap, length, sym}
use Rattle.fl_wire.proofs.Batches.{forgets_count}
use Rattle.fl_wire.proofs.batch.Batch.count.Goals as goal

pub returns-clause-count : goal.returns-clause-count
returns-clause-count c =
    c.u32_at.ensures ∙ sym (ap length (sym c.self.view_is) ∙ forgets_count c.self.inside.bytes.now)
