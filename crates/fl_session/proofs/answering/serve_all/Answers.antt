use Rattle.std.proofs.Common.{inl, inr, refl}
use Rattle.fl_session.proofs.SessionLemmas.{ended_rests}
use Rattle.fl_session.proofs.answering.serve_all.Goals as goal

pub returns-then-replying-clause-ended : goal.returns-then-replying-clause-ended
returns-then-replying-clause-ended g c =
    ended_rests _ _ _ _ _ _ _ c.rest.ensures.over c.rest.ensures.rests (inl refl) c.answer_all-fault.ensures.ended

pub returns-else-replying-clause-ended : goal.returns-else-replying-clause-ended
returns-else-replying-clause-ended g c =
    ended_rests _ _ _ _ _ _ _ c.rest.ensures.over c.rest.ensures.rests (inr refl) c.answer_all-fault.ensures.ended
