use Rattle.std.proofs.Common.{◌≡◌, ◌++◌, ap, ◌∙◌, drop, length, replicate, ℕ, List}
use Rattle.std.proofs.lemmas.List.{drop-replicate}
use Rattle.fl_order.specs.Name.{padded}
use Rattle.fl_order.proofs.name.padded.Goals as goal

-- a front of 255 zeros that is written over
written : (bytes copied : List ℕ) → copied ≡ bytes → copied ++ drop (length bytes) (replicate 255 0) ≡ padded bytes
written bytes copied e = ap (λ front. front ++ drop (length bytes) (replicate 255 0)) e ∙ ap (λ rest. bytes ++ rest) (drop-replicate (length bytes) 255 0)

pub returns : goal.returns
returns c = written c.args.bytes.now _ c.copy_from_slice.ensures.after
