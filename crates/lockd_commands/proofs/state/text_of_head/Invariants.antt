use Rattle.std.proofs.Common.{◌≡◌, take}
use Rattle.fl_desk.specs.Heads.{begun_lines}
use Rattle.fl_trace.specs.Text.{text_of}
use Rattle.lockd_commands.proofs.state.text_of_head.Given as goal

-- the text is that of the head with the parts so far
abbrev pub invariant-loop-at : goal.invariant-loop-at
invariant-loop-at l = l.text.items ≡ text_of (begun_lines l.told.head (take l.at l.told.parts.items))
