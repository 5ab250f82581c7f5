use Rattle.std.proofs.Common.{◌≡◌, ◌+◌, length, sum_by}
use Rattle.fl_log.proofs.shared_log.merged.Given as goal

abbrev pub invariant-loop-appender : goal.invariant-loop-appender
invariant-loop-appender g l =
    (l.all.parts + length l.appenders.items ≡ length l.fn.appenders.items)
    × (l.all.amount + sum_by (λ appender. appender.count) l.appenders.items
    ≡ sum_by (λ appender. appender.count) l.fn.appenders.items)

abbrev pub decreases-loop-appender : goal.decreases-loop-appender
decreases-loop-appender g l = goal.left-loop-appender g l
