use Rattle.std.proofs.Common.{◌≢◌, All, take}
use Rattle.fl_log.proofs.shared_log.has_author.Given as goal

abbrev pub invariant-loop-appender : goal.invariant-loop-appender
invariant-loop-appender g l = All (λ appender. appender.author ≢ l.author) (take l.appender-index l.appenders)
