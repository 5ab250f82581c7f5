use Rattle.std.proofs.Common.{arith}
use Rattle.lockd_serve.proofs.RecordLemmas.{alone, never_unstored, several}
use Rattle.lockd_serve.proofs.serving.record.Goals as goal

pub returns-then-staff-eq1-clause-served : goal.returns-then-staff-eq1-clause-served
returns-then-staff-eq1-clause-served g c =
    let did = c.record_session-recorded in
    alone g.J.Journal.lines g.J.Journal.stored c.args.staff.workers c.args.staff.rules _ did.result.1 did.result.0 c.if-staff-eq1.true
    did.ensures.legal did.ensures.served did.ensures.ahead did.ensures.back did.ensures.unwritten

pub returns-clause-served : goal.returns-clause-served
returns-clause-served g c =
    several g.J.Journal.lines g.J.Journal.stored c.args.staff.workers c.args.staff.rules _ c.record_with_workers.result
    (omega (arith, c.requires.workers, c.if-staff-eq1.false)) c.record_with_workers.ensures

pub returns-then-staff-eq1-clause-stored : goal.returns-then-staff-eq1-clause-stored
returns-then-staff-eq1-clause-stored g c = c.record_session-recorded.ensures.stored

pub returns-clause-stored : goal.returns-clause-stored
returns-clause-stored g c able =
    never_unstored g.J.Journal.lines g.J.Journal.stored c.args.staff.workers c.args.staff.rules _ c.record_with_workers.result
    c.record_with_workers.ensures
