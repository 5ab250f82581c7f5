use Rattle.std.proofs.Common.{◌∙◌, Some, sym, subst, ap}
use Rattle.fl_core.specs.Replies.{reply_to, setlk_reply, setlkw_reply}
use Rattle.fl_core.specs.Kept.{IsRuled}
use Rattle.fl_core.specs.State.{Snapshot}
use Rattle.fl_core.proofs.Limits.{ruled_replied}
use Rattle.fl_core.proofs.parts.Parts.take.Goals as goal
use Rattle.fl_marks.specs.Conflict.{IsLawful}

pub returns-in-Setlk-clause-reply : goal.returns-in-Setlk-clause-reply
returns-in-Setlk-clause-reply c =
    let order = c.args.order.now in
    let now = c.args.self.now in
    let inside = c.self-in-Setlk.inside in
    ap Some c.set_lock-own.ensures.reply
    ∙ ap (λ n. Some (setlk_reply n inside.directory inside.locks.marking order.node c.in-Setlk.ask)) c.self-in-Setlk.invariant.0
    ∙ ap (λ (p : Snapshot). Some (setlk_reply p.rules.runs p.view.directory p.marking order.node c.in-Setlk.ask)) c.self-in-Setlk.view_is
    ∙ sym (ap (reply_to now.rules now.view now.marking order) c.in-Setlk.is)

pub returns-in-Setlk-clause-lawful : goal.returns-in-Setlk-clause-lawful
returns-in-Setlk-clause-lawful c lawful = c.set_lock-own.ensures.lawful (subst (λ (p : Snapshot). IsLawful p.marking) (sym c.self-in-Setlk.view_is) lawful)

pub returns-in-Setlkw-clause-reply : goal.returns-in-Setlkw-clause-reply
returns-in-Setlkw-clause-reply c =
    let order = c.args.order.now in
    let now = c.args.self.now in
    c.set_or_wait-own.ensures.reply ∙ ap (λ (p : Snapshot). setlkw_reply p.rules p.view p.marking order.node c.in-Setlkw.ask) c.self-in-Setlkw.view_is
    ∙ sym (ap (reply_to now.rules now.view now.marking order) c.in-Setlkw.is)

pub returns-in-Setlkw-clause-lawful : goal.returns-in-Setlkw-clause-lawful
returns-in-Setlkw-clause-lawful c lawful = c.set_or_wait-own.ensures.lawful (subst (λ (p : Snapshot). IsLawful p.marking) (sym c.self-in-Setlkw.view_is) lawful)

pub invariant_of-self-in_default : goal.invariant_of-self-in_default
invariant_of-self-in_default c =
    let own = c.self-in_default.inside in (
      c.self-in_default.invariant.0,
      subst (IsRuled own.rules) (sym c.in_directory.ensures.listing)
          (ruled_replied own.rules c.args.order.now c.in_directory.result own.directory c.self-in_default.invariant.1),
    )
