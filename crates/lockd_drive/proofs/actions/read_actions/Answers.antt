use Rattle.std.proofs.Common.{rules}
use Rattle.lockd_drive.proofs.ActionLemmas.{read_bad, read_more}
use Rattle.lockd_drive.proofs.actions.read_actions.Goals as goal

pub returns-in_err-action-clause-error : goal.returns-in_err-action-clause-error
returns-in_err-action-clause-error c =
    let bad =
    read_bad c.args.text.now c.loop-rest.actions.items c.loop-rest.rest.now c.in-Some.line.now c.in-Some.after.now
    c.loop-rest.number c.in_err-action.field-0.0 c.loop-rest.invariant c.in-Some.ensures.first c.in-Some.ensures.behind
    c.in_err-action.ensures.error in
    search rules

pub loop-rest-preserved : goal.loop-rest-preserved
loop-rest-preserved c =
    rw c.in_ok-push.ensures.items
    (read_more c.args.text.now c.loop-rest.actions.items c.loop-rest.rest.now c.in-Some.line.now c.in-Some.after.now
    c.in_ok-action.action c.loop-rest.number c.loop-rest.invariant c.in-Some.ensures.first c.in-Some.ensures.behind
    c.in-Some.ensures.shorter c.in_ok-action.ensures.said)
