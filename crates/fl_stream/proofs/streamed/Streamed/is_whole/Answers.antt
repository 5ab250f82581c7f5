use Rattle.std.proofs.Common.{rules, ◌≡◌, length, subst}
use Rattle.std.proofs.lemmas.List.{nil_from_length}
use Rattle.fl_stream.proofs.Streaming.{all_sent}
use Rattle.fl_stream.proofs.streamed.Streamed.is_whole.Goals as goal
use Rattle.fl_stream.specs.Streams.{Wrote}
use Rattle.fl_trace.specs.Text.{text_of}

pub returns-then-not-self-clause-all : goal.returns-then-not-self-clause-all
returns-then-not-self-clause-all g c empty =
    let none : length c.self.inside.unsent.items ≡ 0 = search rules in
    subst (λ s. Wrote g.W.Write.contents s.held (text_of s.lines)) c.self.view_is
    (all_sent _ _ _ _ _ _ _ c.self.invariant.0 c.if-not-self.true (nil_from_length _ none))

pub returns-else-not-self-clause-all : goal.returns-else-not-self-clause-all
returns-else-not-self-clause-all g c whole = absurd (cc (rw c.if-not-self.false at whole))
