use Rattle.std.proofs.Common.{arith, ap, ◌∙◌}
use Rattle.fl_stream.proofs.Prefixes.{none_waits}
use Rattle.fl_stream.proofs.streamed.StreamedJournal.reserve.Goals as goal
use Rattle.fl_stream.proofs.streamed.StreamedJournal.reserve.Goals.{then-self-count, else-self-count+else-waits}

pub returns-clause-refuses : goal.returns-clause-refuses
returns-clause-refuses g c refuses short =
    elim c.if-self-count.branch [
      | then-self-count w ↦ ap (λ s. s.unsent) w.self-is
          ∙ none_waits _ _ (w.write_waiting.ensures.refuses (w.write_waiting.ensures.manner ∙ refuses))
          (omega (arith, short, c.if-self-count-2.false, ap (λ s. s.room) c.self-2.view_is, ap (λ s. s.room) w.self-is))
      | else-self-count+else-waits w ↦ absurd (omega (arith, short, w.if-self-count.false, ap (λ s. s.room) c.self.view_is))
    ]
