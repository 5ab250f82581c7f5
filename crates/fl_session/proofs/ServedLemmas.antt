-- What a session did.
use Rattle.std.proofs.Common.{◌≡◌, ℕ, Bool, true, false, List, [], ◌∷◌, Option, None, Some, refl, sym, ap, subst}
use Rattle.std.proofs.Common.{append-nil, length, length-append, ◌∙◌, arith}
use Rattle.std.proofs.lemmas.List.Elements.{All-nil}
use Rattle.std.proofs.KnownBytes.{Appends-kept, Appends-nil, Consumes-kept, Consumes-nil, Keeps-refl}
use Rattle.std.specs.Io.KnownBytes.{Keeps}
use Rattle.std.proofs.Common.{inl, inr}
use Rattle.std.specs.Prelude.{◌⊎◌, ◌≢◌, IfSome, IsSome, if◌then◌else◌}
use mathlib.Core.List.{IsPrefix}
use Rattle.fl_desk.specs.Legal.{IsLegal, nothing}
use Rattle.fl_history.specs.declared.history.Line.{Line}
use Rattle.fl_session.proofs.RulesLemmas.{as_far, rules_from}
use Rattle.fl_session.specs.Inside.UnderWay.{HasEnded, Way}
use Rattle.fl_session.specs.Recorded.{done_of}
use Rattle.fl_session.specs.Served.{AreSent, IsServed, IsServedAhead, IsServedAheadFrom, IsServedFrom}
use Rattle.fl_session.specs.Session.{Session, messages_of, session_behind, session_from}
use Rattle.fl_session.specs.declared.done.Done.{Done}
use Rattle.fl_session.specs.declared.recorded.Recorded.{Recorded}
use Rattle.fl_session.specs.declared.server.Server.{Server}
use Rattle.fl_transport.specs.Collecting.{AreGiven}
use Rattle.fl_transport.specs.Ending.{EndsBy, IsEnding, IsRead}
use Rattle.fl_transport.specs.Handshake.{handshake_of}
use Rattle.fl_transport.specs.Inbox.{Inflow, IsUnread}
use Rattle.fl_transport.specs.Streams.{Streams}
use Rattle.fl_transport.specs.declared.fault.Fault.{Fault}
use Rattle.fl_transport.specs.declared.fault.Fault.TheVariants.{NoMemory, Unstored, Write}
use Rattle.fl_waiting.specs.declared.rules.Rules.{Rules}
use Rattle.fl_wire.specs.Frame.{IsMessage}
use Rattle.fl_wire.specs.Spell.{IsReply}

-- nothing was read; fl_transport has the same, and another crate's lemma can't be used
pub nothing_read : (left left_now : Option (List ℕ)) → Keeps left left_now → IsRead left left_now [] []
nothing_read left left_now kept = record {
  read = [];
  consumed = Consumes-kept left left left_now [] (Consumes-nil left) kept;
  cut = record { parts = refl; whole = All-nil IsMessage };
  live = λ front last e. let none = ap length e in absurd (omega (arith, none, length-append front (last ∷ [])));
}

-- nothing was read into an inbox in which nothing is
pub unread : (inbox : Inflow) → inbox.rest ≡ [] → IsUnread inbox
unread inbox empty = record { empty = empty; unread = λ left. rw empty (nothing_read left left (Keeps-refl left)) }

-- a history of no line is legal
pub nothing_legal : (rules : Rules) (history : List Line) → history ≡ [] → IsLegal rules history
nothing_legal rules history none = subst (IsLegal rules) (sym none) nothing

-- if nothing waits, all bytes of the replies were written, or a prefix of them
all_sent : (broken : Bool) (sent : List ℕ) (replies : List (List ℕ)) → AreGiven broken sent [] replies
    → AreSent broken sent replies
all_sent true sent replies given = given
all_sent false sent replies given = sym (append-nil sent) ∙ given

-- what a session that began so is when it ends
ends_as : {K : Type 0} (first now : Session) (way : Way) (server : Server K) (fault : Option Fault) → first ≡ now
    → HasEnded first way server fault → HasEnded now way server fault
ends_as first now way server fault same ended =
    let P : Session → Type 0 = λ s. HasEnded s way server fault in subst P same ended

-- how a session ended, by what its reader tells
ends_by : (fault told : Option Fault) (over broken : Bool) (messages : List (List ℕ)) (rest : List ℕ)
    (left : Option (List ℕ)) → over ≡ (handshake_of messages).over
    → (fault ≡ Some Unstored) ⊎ IsEnding fault over rest left → (fault ≡ Some Unstored → told ≡ Some Unstored)
    → (IsEnding fault (handshake_of messages).over rest left → EndsBy told broken messages rest left)
    → (told ≡ Some Unstored) ⊎ EndsBy told broken messages rest left
ends_by fault told over broken messages rest left same (inl unstored) kept on = inl (kept unstored)
ends_by fault told over broken messages rest left same (inr ending) kept on =
    inr (on (subst (λ o. IsEnding fault o rest left) same ending))

-- A session that ended, of which nothing waits, is served behind the lines that its desk began with, and what it wrote
-- stands behind its lines.
pub served : {K : Type 0} (rules : Rules) (heard base stored : List Line) (resends : Bool) (first : Session) (way : Way)
    (server : Server K) (fault : Option Fault) (done : Done) → first ≡ session_behind rules heard base resends
    → way.out.waiting ≡ [] → HasEnded first way server fault → done.history ≡ server.desk.lines
    → (fault ≡ Some Unstored → done.fault ≡ Some Unstored)
    → ((messages : List (List ℕ)) (rest : List ℕ) (left : Option (List ℕ))
    → IsEnding fault (handshake_of messages).over rest left → EndsBy done.fault way.out.broken messages rest left)
    → done.refused ≡ server.refused → stored ≡ server.desk.stored
    → IsServedAheadFrom (session_behind rules heard base resends)
    (record { left = way.left; left_now = way.left_now; held = way.start; held_now = way.out.held })
    way.out.broken done stored
served rules heard base stored resends first way server fault done same none began history kept told refused is =
    let ended = ends_as first (session_behind rules heard base resends) way server fault same began in
    let session = ended.under in
    let given = session.given in
    let ahead = session.ahead in
    let Q : List ℕ → Type 0 = λ waiting.
    AreGiven way.out.broken given.sent waiting (session_from (session_behind rules heard base resends) session.came).replies in
    let C : List Line → Type 0 = λ l.
    (ahead.sent ≡ []) ⊎ IsPrefix (session_from (session_behind rules heard base resends) ahead.front).lines l in
    record {
      served = record {
        came = session.came;
        rest = ended.rest;
        sent = given.sent;
        is_read = session.is_read;
        bounded = ended.bounded;
        history = history ∙ ap (λ s. s.lines) session.stands;
        refused = refused ∙ ap (λ s. s.refused) session.stands;
        framed = given.framed;
        written = given.written;
        are_sent = all_sent way.out.broken given.sent (session_from (session_behind rules heard base resends) session.came).replies
            (subst Q none given.are_given);
        ending = ends_by fault done.fault server.handshake.over way.out.broken (messages_of session.came) ended.rest
            way.left_now
            (ap (λ h. h.over) (ap (λ s. s.handshake) session.stands ∙ as_far (session_behind rules heard base resends) session.came refl))
            ended.ending kept (told (messages_of session.came) ended.rest way.left_now);
      };
      ahead = record {
        front = ahead.front;
        back = ahead.back;
        sent = ahead.sent;
        owed = ahead.owed;
        is = ahead.is;
        written = ahead.written;
        parts = ahead.parts;
        covered = subst C (sym is) ahead.covered;
      };
    }

-- its desk has these rules
pub desk_under : {K : Type 0} (rules : Rules) (heard base : List Line) (resends : Bool) (first : Session) (way : Way)
    (server : Server K) (fault : Option Fault) → first ≡ session_behind rules heard base resends → HasEnded first way server fault
    → server.desk.present.rules ≡ rules
desk_under rules heard base resends first way server fault same began =
    ap (λ (s : Session). s.rules) began.under.stands ∙ rules_from first began.under.came ∙ ap (λ s. s.rules) same

-- what a session did that had no memory
pub unserved : (rules : Rules) (left left_now held held_now : Option (List ℕ)) (done : Done) → done.history ≡ []
    → done.fault ≡ Some NoMemory → done.refused ≡ false → IsRead left left_now [] [] → Keeps held held_now
    → IsServed rules (record { left = left; left_now = left_now; held = held; held_now = held_now }) false done
unserved rules left left_now held held_now done history fault refused unread kept = record {
  came = [];
  rest = [];
  sent = [];
  is_read = unread;
  bounded = omega arith;
  history = history;
  refused = refused;
  framed = All-nil IsReply;
  written = Appends-kept held held held_now [] (Appends-nil held) kept;
  are_sent = refl;
  ending = inr (rw fault (refl, refl));
}

-- what is so of each journal is so of one that is there
there_of : {K : Type 0} (IsSo : K → Type 0) (Q : Type 0) (journal : Option K) → IsSome journal → IfSome journal IsSo
    → ((k : K) → IsSo k → Q) → Q
there_of IsSo Q None there so on = absurd (cc there)
there_of IsSo Q (Some k) there so on = on k so

-- a session behind no lines was served
pub served_alone : {K : Type 0} (rules : Rules) (heard base : List Line) (streams : Streams) (broken : Bool)
    (lines stored : K → List Line) (it : Recorded K) → heard ≡ [] → base ≡ [] → IsSome it.journal
    → IfSome it.journal (λ k.
    IsServedAheadFrom (session_behind rules heard base false) streams broken (done_of lines it) (stored k))
    → IsServed rules streams broken (done_of lines it)
served_alone {K} rules heard base streams broken lines stored it unheard none there so =
    let P : List Line → List Line → Type 0 = λ heard base.
    IsServedFrom (session_behind rules heard base false) streams broken (done_of lines it) in
    let IsSo : K → Type 0 = λ k. IsServedAheadFrom (session_behind rules heard base false) streams broken (done_of lines it) (stored k) in
    subst (P []) none (subst (λ h. P h base) unheard (there_of IsSo (P heard base) it.journal there so (λ k so. so.served)))

-- the same, and what it wrote stands behind its lines
pub ahead_alone : {K : Type 0} (rules : Rules) (heard base : List Line) (streams : Streams) (broken : Bool)
    (lines stored : K → List Line) (it : Recorded K) → heard ≡ [] → base ≡ []
    → IfSome it.journal (λ k.
    IsServedAheadFrom (session_behind rules heard base false) streams broken (done_of lines it) (stored k))
    → IfSome it.journal (λ k. IsServedAhead rules streams broken (done_of lines it) (stored k))
ahead_alone rules heard base streams broken lines stored it unheard none so =
    let P : List Line → List Line → Type 0 = λ heard base. IfSome it.journal (λ k.
    IsServedAheadFrom (session_behind rules heard base false) streams broken (done_of lines it) (stored k)) in
    subst (P []) none (subst (λ h. P h base) unheard so)

-- how a session ended says that lines were stored
pub ending_stored : (fault : Option Fault) (over : Bool) (rest : List ℕ) (left : Option (List ℕ)) → IsEnding fault over rest left
    → fault ≢ Some Unstored
ending_stored fault over rest left ending is =
    let P : Option Fault → Type 0 = λ f. IsEnding f over rest left in subst P is ending

-- what is told of a fault that isn't about lines, isn't about them either
pub told_stored : (fault told : Option Fault) (broken : Bool) → (IsSome fault → told ≡ fault)
    → (fault ≡ None → told ≡ (if broken then Some Write else None)) → fault ≢ Some Unstored → told ≢ Some Unstored
told_stored None told true reader writer not is = let e = writer refl in absurd (cc (e, is))
told_stored None told false reader writer not is = let e = writer refl in absurd (cc (e, is))
told_stored (Some fault) told broken reader writer not is = not (sym (reader refl) ∙ is)
