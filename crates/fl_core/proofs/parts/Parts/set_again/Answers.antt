use Rattle.std.proofs.Common.{◌∙◌, Ok, sym, ap}
use Rattle.fl_core.specs.Effects.{locked}
use Rattle.fl_core.specs.State.{Snapshot}
use Rattle.fl_core.proofs.Replays.{granted_made}
use Rattle.fl_core.proofs.parts.Parts.set_again.Goals as goal
use Rattle.fl_marks.specs.Change.{after_changes}
use Rattle.fl_marks.specs.Marking.{Marking}

pub returns-in-Setlk-clause-made : goal.returns-in-Setlk-clause-made
returns-in-Setlk-clause-made c set answer =
    let order = c.args.order.now in
    let inside = c.self.inside in
    let ask = c.in-Setlk.ask in
    ap (λ (m : Marking). record { rules = inside.rules; view = record { directory = inside.directory; parked = inside.parked }; marking = m })
    (c.restore.ensures.set set answer)
    ∙ ap (λ (t : Snapshot). record t { marking = after_changes (locked order.node ask (Ok answer)) t.marking }) c.self.view_is
    ∙ sym (granted_made order ask answer c.args.self.now c.in-Setlk.is c.requires.fresh)
