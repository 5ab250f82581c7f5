use Rattle.std.proofs.Common.{rules, ◌≡◌, ℕ, List, [], Option, refl, subst, ◌∙◌}
use Rattle.fl_desk.specs.Legal.{IsLegal}
use Rattle.fl_desk.specs.Pieces.{IsPiece}
use Rattle.fl_session.proofs.ServedLemmas.{desk_under, served, told_stored, unread}
use Rattle.fl_session.specs.Inside.Serving.{session_with}
use Rattle.fl_session.specs.Inside.UnderWay.{HasEnded, Way}
use Rattle.fl_session.specs.Session.{Session, session_behind}
use Rattle.std.specs.Prelude.{is_some}
use Rattle.fl_transport.specs.Collecting.{outgoing, Outgoing}
use Rattle.fl_transport.specs.Outbox.{writer_of}
use Rattle.fl_waiting.specs.declared.rules.Rules.{Rules}
use Rattle.fl_session.proofs.session.serve_session.Goals as goal

pub serve_all-fault-requires-clause-unread : goal.serve_all-fault-requires-clause-unread
serve_all-fault-requires-clause-unread g c = unread _ c.args.room.unread

pub returns-clause-served : goal.returns-clause-served
returns-clause-served g c =
    let all = c.serve_all-fault in
    let out = outgoing g.W.Write.contents all.new.replying.batch in
    let made = c.new-server in
    let first : Session = session_with made.result [] in
    let same : first ≡ session_behind c.args.room.rules c.args.heard.items c.args.desk.lines (is_some c.args.recent) =
    rw (made.ensures.desk, made.ensures.heard, made.ensures.recent, made.ensures.fresh.handshake, made.ensures.fresh.refused, c.requires.rules) refl in
    let way : Option (List ℕ) → Outgoing → Way = λ start out. record {
      left = g.R.Read.remaining c.args.r.now;
      left_now = g.R.Read.remaining all.new.r;
      start = start;
      out = out;
    } in
    let P : Option (List ℕ) → Type 0 = λ start. HasEnded first (way start out) all.new.server all.result in
    let Q : Option (List ℕ) → Type 0 = λ held.
    HasEnded first (way (g.W.Write.contents c.args.w.now) (record out { held = held })) all.new.server all.result in
    let start : g.W.Write.contents (writer_of c.new.result).now ≡ g.W.Write.contents c.args.w.now = search rules in
    let whole = subst Q (search rules) (subst P start all.ensures.ended) in
    rw c.into_parts-writer.ensures.broken (served _ _ _ _ _ _ _ _ _ _ same all.ensures.none whole
    c.into_journal.ensures.lines (λ is. c.told.ensures.reader (rw is refl) ∙ is)
    (rw (← c.into_parts-writer.ensures.broken) c.told.ensures.ends) refl c.into_journal.ensures.stored)

pub returns-clause-legal : goal.returns-clause-legal
returns-clause-legal g c =
    let P : Rules → Type 0 = λ by. IsLegal by (g.J.Journal.lines c.into_journal.result) in
    let made = c.new-server in
    let same : session_with made.result [] ≡ session_behind c.args.room.rules c.args.heard.items c.args.desk.lines (is_some c.args.recent) =
    rw (made.ensures.desk, made.ensures.heard, made.ensures.recent, made.ensures.fresh.handshake, made.ensures.fresh.refused, c.requires.rules) refl in
    subst P (desk_under _ _ _ _ _ _ _ _ same c.serve_all-fault.ensures.ended) c.into_journal.ensures.legal

pub returns-clause-piece : goal.returns-clause-piece
returns-clause-piece g c =
    let P : Rules → Type 0 = λ by. IsPiece by (g.J.Journal.lines c.into_journal.result) (g.J.Journal.piece c.into_journal.result) in
    let made = c.new-server in
    let same : session_with made.result [] ≡ session_behind c.args.room.rules c.args.heard.items c.args.desk.lines (is_some c.args.recent) =
    rw (made.ensures.desk, made.ensures.heard, made.ensures.recent, made.ensures.fresh.handshake, made.ensures.fresh.refused, c.requires.rules) refl in
    subst P (desk_under _ _ _ _ _ _ _ _ same c.serve_all-fault.ensures.ended) c.into_journal.ensures.piece

pub returns-clause-stored : goal.returns-clause-stored
returns-clause-stored g c infallible =
    told_stored _ _ _ c.told.ensures.reader c.told.ensures.writer (c.serve_all-fault.ensures.stored infallible)
