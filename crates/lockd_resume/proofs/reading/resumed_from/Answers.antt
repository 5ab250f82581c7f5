use Rattle.fl_audit.specs.declared.finding.AuditFault.TheVariants.{NoMemory}
use Rattle.lockd_resume.proofs.BehindLemmas.{unread}
use Rattle.lockd_resume.proofs.reading.resumed_from.Goals as goal

pub returns-in_default-clause-error : goal.returns-in_default-clause-error
returns-in_default-clause-error g c =
    unread c.args.rules (g.P.PiecesBefore.left c.args.before.now) (g.S.Read.remaining c.args.file.now) NoMemory (λ n is. absurd (cc is))
