use Rattle.std.proofs.Common.{◌+◌, ◌++◌, ◌∷◌, [], sym, ◌∙◌, ap, subst, arith}
use Rattle.fl_history.specs.Inside.Chunks.{IsStocked}
use Rattle.fl_history.proofs.Packing.{stocked_more}
use Rattle.fl_history.proofs.chunks.ChunkedVec.grow.Goals as goal

pub invariant_of-self-2 : goal.invariant_of-self-2
invariant_of-self-2 g c =
    let s = c.self.inside in
    subst (λ cs. IsStocked 4096 cs s.len (s.capacity + 4096)) (sym (c.in_ok-push.ensures.items
    ∙ ap (λ chunk. s.chunks.items ++ chunk ∷ []) c.in_ok-chunk.ensures))
    (stocked_more 4096 s.len s.capacity s.chunks.items c.self.invariant (omega arith))
