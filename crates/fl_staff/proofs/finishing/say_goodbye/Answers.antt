use Rattle.std.proofs.Common.{[], subst}
use Rattle.fl_transport.specs.Collecting.{IsGiven, Outgoing}
use Rattle.fl_staff.proofs.EndLemmas.{goodbye_said}
use Rattle.fl_staff.proofs.finishing.say_goodbye.Goals as goal
use Rattle.fl_workers.specs.Sent.{Sending, spelled}

pub returns-clause-given : goal.returns-clause-given
returns-clause-given g c =
    let out : Outgoing = record { held = g.W.Write.contents c.into_writer-writer.result.0.now; waiting = []; broken = c.into_writer-writer.result.1 } in
    let given = subst (λ (s : Sending). IsGiven g.N.WriterName.start out (spelled s.log)) c.is_by-whole.ensures.same
    c.into_writer-writer.ensures.given in
    goodbye_said _ _ _ _ _ _ _ _ _ _ _ given c.say-said.ensures.said c.say-said.ensures.grown c.push_reserved.ensures.items
    c.is_by-whole.ensures.each c.is_by-whole.ensures.total
