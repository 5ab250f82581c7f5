use Rattle.std.proofs.Common.{All, ap, subst}
use Rattle.fl_log.specs.Appended.{HasAll}
use Rattle.fl_workers.specs.Sent.{Sending}
use Rattle.fl_workers.proofs.sender.SharedSender.is_by.Goals as goal

pub returns-clause-each : goal.returns-clause-each
returns-clause-each g c test =
    let same = ap (λ (s : Sending). s.log) c.self.view_is in
    subst (λ log. All (HasAll (λ e. e.author) log) c.args.appenders.items) same (c.is_by.ensures.each test)
