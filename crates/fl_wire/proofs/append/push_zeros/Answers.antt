-- The front of 64 zeros is zeros.
use Rattle.std.proofs.Common.{ap, ◌∙◌, ◌++◌}
use Rattle.std.proofs.lemmas.List.{take-replicate}
use Rattle.fl_wire.proofs.append.push_zeros.Goals as goal

pub returns-clause-items : goal.returns-clause-items
returns-clause-items c =
    record { is = c.push_bytes.ensures.items ∙ ap (λ xs. c.args.out.now.items ++ xs) (take-replicate c.args.count 64 0 c.requires.few) }
