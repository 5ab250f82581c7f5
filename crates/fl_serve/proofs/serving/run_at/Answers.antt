use Rattle.std.proofs.Common.{[], Some, false, inl, inr, ⊎_elim, refl, ap, sym, ◌∙◌}
use Rattle.std.proofs.KnownBytes.{Keeps-refl}
use Rattle.fl_serve.proofs.ServingLemmas.{all_recorded, board_served, closed_as, never_no_reader, none_recorded}
use Rattle.fl_serve.proofs.ServingLemmas.{nothing_given, same_fault, unstarted_recorded}
use Rattle.fl_serve.proofs.serving.run_at.Goals as goal

pub returns-in-Err-clause-recorded : goal.returns-in-Err-clause-recorded
returns-in-Err-clause-recorded g c = none_recorded _ _ _ _ _ [] false _ (c.nothing.ensures.journal, c.nothing.ensures.refused)
    (⊎_elim (λ m. inl (c.nothing.ensures.fault ∙ ap Some m.1, refl)) (λ r. inr (c.nothing.ensures.fault ∙ ap Some r.1)) c.unopened.ensures)
    (c.nothing.ensures.read _ _ (Keeps-refl _)) (nothing_given _) (Keeps-refl _) (λ _. Keeps-refl _)

pub returns-in-Ok-served-clause-recorded : goal.returns-in-Ok-served-clause-recorded
returns-in-Ok-served-clause-recorded g c =
    let did = rw c.in-Ok-served.is at c.serve_at-served.ensures.served in
    let it = c.closed.ensures in
    let end = did.ends did.received.messages did.received.rest (g.I.Read.remaining c.serve_at-served.new.r)
    did.received.ending in
    all_recorded g.J.Journal.lines g.J.Journal.stored c.args.staff.workers c.args.staff.workers c.args.staff.rules
    g.L.BoardName.rules _ g.N.WriterName.start c.closed.result refl c.requires.rules c.requires.start it.legal
    (board_served g.L.BoardName.rules c.args.staff.workers _ c.in-Ok-served.served _ _ did
    (closed_as g.J.Journal.lines _ _ _ _ _ c.closed.result it.told))
    it.back (it.memory did.memory) (it.untold (never_no_reader _ _ _ _ _ end))

pub returns-in-Err-served-clause-recorded : goal.returns-in-Err-served-clause-recorded
returns-in-Err-served-clause-recorded g c =
    let did = rw c.in-Err-served.is at c.serve_at-served.ensures.unserved in
    let it = c.nothing-in-Err-served.ensures in
    let why = ⊎_elim (λ m. inl (it.fault ∙ ap Some m)) (λ r. inr (it.fault ∙ ap Some r)) did.why in
    rw c.requires.start (unstarted_recorded _ _ _ _ _ _ _ _ did.log did.broken _ (it.journal, it.refused) why
    (it.read _ _ did.unread) did.sent did.unread
    (λ memory. did.unwritten (same_fault _ _ (sym it.fault ∙ memory))))
