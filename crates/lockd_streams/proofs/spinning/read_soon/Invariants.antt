use Rattle.std.specs.Io.KnownBytes.{Keeps}
use Rattle.lockd_streams.proofs.spinning.read_soon.Given as goal

abbrev pub invariant-loop : goal.invariant-loop
invariant-loop g l = Keeps (g.R.Read.remaining l.initial.stream) (g.R.Read.remaining l.stream)
