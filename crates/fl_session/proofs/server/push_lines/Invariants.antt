use Rattle.std.proofs.Common.{◌≡◌, ◌++◌, take}
use Rattle.fl_counter.specs.Answered.{step_lines}
use Rattle.fl_session.proofs.server.push_lines.Given as goal

-- the order and the replies so far are there
abbrev pub invariant-loop-told : goal.invariant-loop-told
invariant-loop-told l = l.recent ≡ l.fn.recent ++ step_lines 0 l.order (take l.told-index l.tolds)
