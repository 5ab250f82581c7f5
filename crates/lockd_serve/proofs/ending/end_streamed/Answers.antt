use Rattle.std.proofs.Common.{sym, subst}
use Rattle.fl_session.specs.Recorded.{journal_lines}
use Rattle.fl_stream.specs.Streams.{HoldsText}
use Rattle.lockd_serve.proofs.EndingLemmas.{fewer_there}
use Rattle.lockd_serve.proofs.ending.end_streamed.Goals as goal

pub returns-clause-noted : goal.returns-clause-noted
returns-clause-noted g c =
    subst (λ j. HoldsText g.T.Write.contents (g.T.Write.contents c.into_writer-writer.result) (journal_lines (λ s. s.noted) j))
    (sym c.in-Some.is)
    (fewer_there g.T.Write.contents _ _ _ c.finish-whole.ensures.front c.into_writer-writer.ensures.there)
