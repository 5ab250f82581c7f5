use Rattle.std.proofs.Common.{All, take}
use Rattle.fl_log.specs.Appended.{HasMost}
use Rattle.fl_log.proofs.shared_log.begins_with.Given as goal

abbrev pub invariant-loop-appender : goal.invariant-loop-appender
invariant-loop-appender g l = All (HasMost g.E.Entry.author l.all) (take l.appender-index l.appenders)
