use Rattle.std.proofs.Common.{◌≡◌, take}
use Rattle.std.specs.List.{fold}
use Rattle.fl_dir.specs.Inside.Kept.{hashed}
use Rattle.fl_dir.proofs.names.hash_of.Given as goal

abbrev pub invariant-loop-byte : goal.invariant-loop-byte
invariant-loop-byte l = l.hash ≡ fold hashed 2166136261 (take l.byte-index l.bytes)
