use Rattle.std.proofs.Common.{◌≡◌, List, ◌++◌, ◌∙◌, ap, refl, sym, subst}
use Rattle.fl_desk.specs.Legal.{IsLegal}
use Rattle.fl_desk.specs.Pieces.{IsPiece}
use Rattle.fl_history.specs.declared.history.Line.{Line}
use Rattle.fl_judge.specs.Present.{told_lines}
use mathlib.Core.List.{IsPrefix}
use Rattle.lockd_resume.proofs.Stored.{served_as, so_of}
use Rattle.fl_stream.specs.Pieced.{Pieced, behind_head, stored_of}
use Rattle.fl_stream.specs.Streams.{Stream}
use Rattle.fl_transport.specs.Streams.{Streams}
use Rattle.lockd_resume.proofs.behind.resume.Goals as goal

pub returns-clause-resumed : goal.returns-clause-resumed
returns-clause-resumed g c =
    let ended = c.resume_session-recorded in
    let point = c.args.point in
    let rules = point.session.rules in
    let past = point.resumed.past.items in
    let base : List Line = past ++ told_lines point.resumed.missing in
    let same : c.resume-desk.result.lines ≡ base =
    c.resume-desk.ensures.lines ∙ c.lines_behind-journal.ensures.lines ∙ ap (λ l. l ++ told_lines c.as_slice.result.now) c.behind-journal.ensures.lines
    ∙ ap (λ m. past ++ told_lines m) c.as_slice.ensures.is in
    let journal = c.in-Some.journal in
    let stream = c.into_stream.result in
    let here : stream ≡ journal.here = c.into_stream.ensures.value ∙ c.into_here.ensures.here in
    let piece : stream.lines ≡ journal.here.lines = ap (λ (s : Stream). s.lines) here in
    let streams : Streams = record {
      left = g.R.Read.remaining c.args.r.now;
      left_now = g.R.Read.remaining ended.new.r;
      held = g.W.Write.contents c.args.w.now;
      held_now = g.W.Write.contents ended.new.w;
    } in
    let served = served_as (λ (j : Pieced). j.lines) stored_of rules point.heard.items point.heard.items c.resume-desk.result.lines
    base streams ended.result.1 ended.result.0 journal journal.lines c.in-Some.is refl same refl ended.ensures.served in
    record {
      lines = journal.lines;
      stored = stored_of journal;
      before = journal.before;
      head = journal.head;
      piece = stream.lines;
      piece_stored = stream.noted;
      served = served.served;
      legal = so_of (λ (j : Pieced). IsLegal rules j.lines) ended.result.0.journal journal c.in-Some.is ended.ensures.legal;
      is_piece = subst (IsPiece rules journal.lines) (sym piece)
          (so_of (λ (j : Pieced). IsPiece rules j.lines j.here.lines) ended.result.0.journal journal c.in-Some.is ended.ensures.piece);
      all = c.into_here.ensures.all ∙ ap (behind_head journal.before journal.head) (sym piece);
      all_stored = ap (λ (s : Stream). behind_head journal.before journal.head s.noted) (sym here);
      begun = c.finish-file.ensures.begun;
      whole = c.finish-file.ensures.whole;
      there = c.finish-file.ensures.there;
      front = subst (λ (s : Stream). IsPrefix s.noted s.lines) (sym c.into_stream.ensures.value) c.into_stream.ensures.front;
      ahead = served.ahead;
    }
