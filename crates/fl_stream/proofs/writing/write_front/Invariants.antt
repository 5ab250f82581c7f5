use Rattle.std.proofs.Common.{◌≤◌, take, length}
use Rattle.std.specs.Io.KnownBytes.{Appends}
use Rattle.fl_stream.proofs.writing.write_front.Given as goal

-- the bytes up to here went out
abbrev pub invariant-loop : goal.invariant-loop
invariant-loop g l = (l.at ≤ length l.bytes)
    × Appends (g.W.Write.contents l.initial.writer) (g.W.Write.contents l.writer) (take l.at l.bytes)
