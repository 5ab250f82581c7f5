use Rattle.std.proofs.Common.{◌∙◌, rules, sym, subst}
use Rattle.fl_audit.specs.First.{IsSoOfAll}
use Rattle.lockd_resume.specs.Behind.{FileSays}
use Rattle.lockd_resume.specs.Heard.{IsHeardBefore}
use Rattle.lockd_resume.proofs.BehindLemmas.{unread}
use Rattle.lockd_resume.proofs.reading.heard_lines.Goals as goal

pub returns-in-Err-clause-error : goal.returns-in-Err-clause-error
returns-in-Err-clause-error g c =
    let left = g.S.Read.remaining c.args.file.now in
    let before = g.P.PiecesBefore.left c.args.before.now in
    subst (λ fault. IsSoOfAll left (λ text. FileSays c.args.rules before text fault)) (sym c.told.ensures)
    (unread c.args.rules before left c.in-Err.fault (λ n is. c.in-Err.ensures.bad n (search rules)))

pub returns-clause-heard : goal.returns-clause-heard
returns-clause-heard g c =
    subst (λ lines. IsHeardBefore c.args.rules (g.P.PiecesBefore.left c.args.before.now) lines c.in-Ok-with_before.last.past.items)
    (c.in-Ok.ensures.recent ∙ sym c.in-Ok-gone_on.ensures.past) c.in-Ok-with_before.ensures.heard
