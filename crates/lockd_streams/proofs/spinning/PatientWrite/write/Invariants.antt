use Rattle.std.specs.Prelude.{◌≡◌}
use Rattle.std.specs.Io.KnownBytes.{Keeps}
use Rattle.lockd_streams.proofs.spinning.PatientWrite.write.Given as goal

abbrev pub invariant-loop : goal.invariant-loop
invariant-loop g l = (l.buf ≡ l.initial.buf) × Keeps (g.W.Write.contents l.initial.self-inside.stream) (g.W.Write.contents l.self-inside.stream)
