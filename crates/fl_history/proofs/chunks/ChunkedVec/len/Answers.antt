use Rattle.std.proofs.Common.{length, sym, ◌∙◌, ap}
use Rattle.fl_history.proofs.Packing.{packed_length}
use Rattle.fl_history.proofs.chunks.ChunkedVec.len.Goals as goal

pub returns-clause-len : goal.returns-clause-len
returns-clause-len g c = sym (packed_length _ _ _ c.self.invariant.packed) ∙ ap (λ s. length s.items) c.self.view_is
