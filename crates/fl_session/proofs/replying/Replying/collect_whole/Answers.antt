use Rattle.std.proofs.Common.{List, ℕ, ◌∷◌, [], ap, subst, ◌∙◌}
use Rattle.fl_core.specs.State.{Snapshot}
use Rattle.fl_session.proofs.ReplyingLemmas.{Collects-trans}
use Rattle.fl_session.specs.Whole.{whole_reply}
use Rattle.fl_transport.specs.Collecting.{Collects, Outgoing, outgoing}
use Rattle.fl_session.proofs.replying.Replying.collect_whole.Goals as goal

pub returns-clause-collected : goal.returns-clause-collected
returns-clause-collected g c =
    let out : Outgoing = outgoing g.W.Write.contents c.send.new.self.batch in
    let laid : List ℕ = c.lay_out.new.replies in
    let is = c.lay_out.ensures.bytes ∙ ap (λ (p : Snapshot). whole_reply p.rules p.view.directory c.args.unique c.args.ask.now)
    (c.present.ensures.is ∙ c.send.ensures.desk.1) in
    Collects-trans _ _ _ _ _ c.send.ensures.sent (subst (λ r. Collects out (record out { waiting = laid }) (r ∷ [])) is
    (c.a_reply_by_itself_is_collected.ensures out laid c.send.ensures.none c.lay_out.ensures.reply))
