use Rattle.std.proofs.Common.{◌≡◌, ◌∙◌, true, false, Some, None, refl, sym, ap}
use Rattle.fl_waiting.specs.Circle.{is_deadlock}
use Rattle.fl_waiting.specs.LockRequest.{mark_of, stroke_of}
use Rattle.fl_core.specs.Replies.{room_reply}
use Rattle.fl_core.specs.State.{View}
use Rattle.fl_waiting.specs.Waiting.{is_blocked}
use Rattle.fl_core.proofs.Requests.{asked_stroke, setlkw_is}
use Rattle.fl_core.proofs.locking.set_or_wait.Goals as goal

pub returns-then-not-is_blocked-clause-reply : goal.returns-then-not-is_blocked-clause-reply
returns-then-not-is_blocked-clause-reply c =
    let m = c.args.locks.now.marking in
    let ask = c.args.ask.now in
    let v : View = record { directory = c.args.directory.now; parked = c.args.parked.now } in
    let s = stroke_of c.args.node ask in
    let asked = asked_stroke c.args.node ask c.key_of-key.result c.in-Ok.range c.mark_of-mark.result c.key_of-key.ensures c.in-Ok.ensures.range
    c.mark_of-mark.ensures in
    let free : is_blocked c.args.rules m v.parked s (mark_of ask) ≡ false = (λ i. is_blocked c.args.rules m v.parked (sym asked i) (sym c.mark_of-mark.ensures i)) ∙ sym c.is_blocked.ensures.wait
    ∙ c.if-not-is_blocked.true in
    ap Some (c.set_range.ensures.reply ∙ (λ i. room_reply (c.requires i) m (asked i))) ∙ sym (setlkw_is c.args.rules v m c.args.node ask None false _ _ c.in-Ok.ensures.passed free refl refl)

pub returns-then-is_deadlock-clause-reply : goal.returns-then-is_deadlock-clause-reply
returns-then-is_deadlock-clause-reply c =
    let m = c.args.locks.now.marking in
    let ask = c.args.ask.now in
    let v : View = record { directory = c.args.directory.now; parked = c.args.parked.now } in
    let s = stroke_of c.args.node ask in
    let asked = asked_stroke c.args.node ask c.key_of-key.result c.in-Ok.range c.mark_of-mark.result c.key_of-key.ensures c.in-Ok.ensures.range
    c.mark_of-mark.ensures in
    let held : is_blocked c.args.rules m v.parked s (mark_of ask) ≡ true = (λ i. is_blocked c.args.rules m v.parked (sym asked i) (sym c.mark_of-mark.ensures i)) ∙ sym c.is_blocked.ensures.wait
    ∙ c.if-not-is_blocked.false in
    let circle : is_deadlock c.args.rules m v.parked s (mark_of ask) ≡ true = (λ i. is_deadlock c.args.rules m v.parked (sym asked i) (sym c.mark_of-mark.ensures i))
    ∙ sym c.is_deadlock.ensures ∙ c.if-is_deadlock.true in
    sym (setlkw_is c.args.rules v m c.args.node ask None true true _ c.in-Ok.ensures.passed held circle refl)
