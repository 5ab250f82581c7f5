use Rattle.std.proofs.Common.{◌∙◌, ap, arith}
use Rattle.std.specs.List.{fold}
use Rattle.std.proofs.lemmas.List.{take_all}
use Rattle.fl_dir.specs.Inside.Kept.{hashed, hash_of}
use Rattle.fl_dir.proofs.names.hash_of.Goals as goal

pub returns : goal.returns
unfolding hash_of
returns c =
    c.loop-byte.invariant
    ∙ ap (fold hashed 2166136261) (take_all c.loop-byte.byte-index c.as_bytes-bytes.result.now (omega arith) ∙ c.as_bytes-bytes.ensures.bytes)
