use Rattle.std.proofs.Common.{◌≡◌, take}
use Rattle.std.specs.Str.{IsUtf8}
use Rattle.fl_trace.specs.Text.{text_of}
use Rattle.fl_stream.proofs.text.print_trace.Given as goal

-- the lines so far are written, and are text
abbrev pub invariant-loop-at : goal.invariant-loop-at
invariant-loop-at l = (l.text.items ≡ text_of (take l.at l.history)) × IsUtf8 l.text.items
