use Rattle.std.proofs.Common.{length}
use Rattle.fl_stream.proofs.Reading.{IsReadSoFar}
use Rattle.fl_stream.proofs.text.read_trace.Given as goal

-- the text is the lines that are read, and the rest
abbrev pub invariant-loop-rest : goal.invariant-loop-rest
invariant-loop-rest l = IsReadSoFar l.text l.history l.rest

abbrev pub decreases-loop-rest : goal.decreases-loop-rest
decreases-loop-rest l = length l.rest
