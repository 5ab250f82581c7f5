use Rattle.std.proofs.Common.{◌∙◌, sym, ap}
use Rattle.fl_dir.specs.Replies.{unless_error}
use Rattle.fl_waiting.specs.LockRequest.{mark_of, stroke_of}
use Rattle.fl_core.specs.Replies.{set_reply}
use Rattle.fl_core.proofs.Requests.{asked_stroke}
use Rattle.fl_core.proofs.locking.set_lock.Goals as goal

pub returns-clause-reply : goal.returns-clause-reply
returns-clause-reply c =
    let m = c.args.locks.now.marking in
    let ask = c.args.ask.now in
    let asked = asked_stroke c.args.node ask c.key_of.result c.in_ok-range.range c.mark_of.result c.key_of.ensures c.in_ok-range.ensures.range
    c.mark_of.ensures in
    c.change.ensures.reply
    ∙ (λ i. set_reply c.args.locks.now.limit m (asked i) (c.mark_of.ensures i))
    ∙ sym (ap (λ o. unless_error o (set_reply c.args.locks.now.limit m (stroke_of c.args.node ask) (mark_of ask))) c.in_ok-range.ensures.passed)
