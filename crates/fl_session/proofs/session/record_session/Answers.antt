use Rattle.std.proofs.Common.{ap}
use Rattle.std.proofs.KnownBytes.{Keeps-refl}
use Rattle.fl_session.proofs.ServedLemmas.{ahead_alone, served_alone, unserved}
use Rattle.fl_session.specs.Recorded.{journal_lines}
use Rattle.fl_session.proofs.session.record_session.Goals as goal

pub returns-in_default-clause-served : goal.returns-in_default-clause-served
returns-in_default-clause-served g c = unserved _ _ _ _ _ _ (ap (journal_lines g.J.Journal.lines) c.nothing.ensures.journal)
    c.nothing.ensures.fault c.nothing.ensures.refused (c.nothing.ensures.read _ _ (Keeps-refl _)) (Keeps-refl _)

pub returns-in_default-over-clause-served : goal.returns-in_default-over-clause-served
returns-in_default-over-clause-served g c = unserved _ _ _ _ _ _ (ap (journal_lines g.J.Journal.lines) c.nothing-in_default-over.ensures.journal)
    c.nothing-in_default-over.ensures.fault c.nothing-in_default-over.ensures.refused
    (c.nothing-in_default-over.ensures.read _ _ (Keeps-refl _)) (Keeps-refl _)

pub returns-clause-served : goal.returns-clause-served
returns-clause-served g c = rw (← c.in-Ok.ensures.rules) (served_alone _ _ _ _ _ g.J.Journal.lines g.J.Journal.stored _
    c.new-heard.ensures c.in-Ok-over.ensures.lines c.serve_session.ensures.back c.serve_session.ensures.served)

pub returns-clause-ahead : goal.returns-clause-ahead
returns-clause-ahead g c = rw (← c.in-Ok.ensures.rules) (ahead_alone _ _ _ _ _ g.J.Journal.lines g.J.Journal.stored _
    c.new-heard.ensures c.in-Ok-over.ensures.lines c.serve_session.ensures.served)
