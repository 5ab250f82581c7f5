use Rattle.std.proofs.Common.{◌-◌, ◌≤◌, take, length}
use Rattle.std.specs.Io.KnownBytes.{Appends}
use Rattle.fl_transport.proofs.outbox.send_on.Given as goal

-- the bytes up to here went out
abbrev pub invariant-loop-at : goal.invariant-loop-at
invariant-loop-at g l = (l.at ≤ length l.reply) × Appends (g.W.Write.contents l.initial.writer)
    (g.W.Write.contents l.writer) (take l.at l.reply)

abbrev pub decreases-loop-at : goal.decreases-loop-at
decreases-loop-at g l = length l.reply - l.at
