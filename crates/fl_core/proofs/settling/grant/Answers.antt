use Rattle.std.proofs.Common.{◌∙◌, ap}
use Rattle.fl_marks.specs.Change.{after_changes}
use Rattle.fl_core.specs.Effects.{locked}
use Rattle.fl_core.specs.Replies.{room_reply}
use Rattle.fl_core.proofs.Requests.{set_marking}
use Rattle.fl_core.proofs.settling.grant.Goals as goal

pub returns-clause-told : goal.returns-clause-told
returns-clause-told c =
    let claim = c.args.claim.now in
    ap (λ reply. record { unique = claim.request.unique; result = reply }) (c.set_range.ensures.reply ∙ ap (room_reply c.args.locks.now.limit c.args.locks.now.marking) claim.wanted)

pub returns-clause-marking : goal.returns-clause-marking
returns-clause-marking c =
    let claim = c.args.claim.now in
    let r = claim.request in
    let m = c.args.locks.now.marking in
    set_marking c.set_range.result m c.set_range.new.locks.marking _ r.node r.ask claim.wanted c.set_range.ensures.granted c.set_range.ensures.refused
    ∙ ap (λ reply. after_changes (locked r.node r.ask reply) m) (c.set_range.ensures.reply ∙ ap (room_reply c.args.locks.now.limit m) claim.wanted)
