use Rattle.std.proofs.Common.{take}
use Rattle.fl_trace.specs.Text.{Fits}
use Rattle.fl_stream.proofs.text.has_text.Given as goal

-- the lines so far fit
abbrev pub invariant-loop-at : goal.invariant-loop-at
invariant-loop-at l = Fits (take l.at l.history)
