-- Messages that are answered one after another.
use Rattle.std.proofs.Common.{◌≡◌, ℕ, ◌≤◌, Bool, true, false, List, [], ◌∷◌, ◌++◌, length, Option, Some, refl, sym, ap, subst}
use Rattle.std.proofs.Common.{append-nil, append_assoc, ◌∙◌}
use Rattle.std.proofs.Common.{inl, inr}
use Rattle.std.specs.Prelude.{◌⊎◌}
use Rattle.std.specs.List.{concat}
use Rattle.std.proofs.lemmas.Grind.{fold-append}
use Rattle.std.proofs.lemmas.List.{map-append}
use Rattle.std.proofs.lemmas.List.Elements.{All-nil}
use Rattle.std.proofs.KnownBytes.{Appends-nil}
use Rattle.std.specs.Io.KnownBytes.{Appends}
use mathlib.Core.List.{IsPrefix}
use Rattle.fl_history.specs.declared.history.Line.{Line}
use Rattle.fl_session.proofs.Prefixes.{of_another}
use Rattle.fl_session.proofs.RulesLemmas.{as_far}
use Rattle.fl_session.specs.Inside.Serving.{session_with, IsFresh}
use Rattle.fl_session.specs.Inside.UnderWay.{IsAheadOf, IsUnderWay, IsAnswered, HasEnded, Rests, Way}
use Rattle.fl_session.specs.Session.{Came, Session, messages_of, session_from, with_message}
use Rattle.fl_session.specs.declared.server.Server.{Server}
use Rattle.fl_transport.specs.Collecting.{AreGiven, Collects, IsGiven, Outgoing}
use Rattle.fl_transport.specs.Ending.{IsEnding, IsRead}
use Rattle.fl_transport.specs.Handshake.{handshake_of}
use Rattle.fl_transport.specs.Inbox.{Inflow, IsUnread, ReadsOn, Takes}
use Rattle.fl_transport.specs.declared.fault.Fault.{Fault}
use Rattle.fl_transport.specs.declared.fault.Fault.TheVariants.{Unstored}
use Rattle.fl_wire.specs.Spell.{IsReply}

-- one message more
from_more : (first : Session) (came : List Came) (c : Came)
    → session_from first (came ++ c ∷ []) ≡ with_message (session_from first came) c
from_more first came c = fold-append with_message first came (c ∷ [])

-- nothing was read yet
pub way_first : {K : Type 0} (left : Option (List ℕ)) (out : Outgoing) (server : Server K) (inbox : Inflow)
    → IsFresh server → out.waiting ≡ [] → out.broken ≡ false → IsUnread inbox
    → IsUnderWay (session_with server []) (record { left = left; left_now = left; start = out.held; out = out }) server
    inbox.rest
way_first left out server inbox fresh none whole unread = record {
  came = [];
  began = fresh.handshake;
  is_read = unread.unread left;
  stands = refl;
  given = record {
    sent = [];
    written = Appends-nil out.held;
    are_given = subst (λ broken. AreGiven broken [] out.waiting []) (sym whole) none;
    framed = All-nil IsReply;
  };
  ahead = record {
    front = [];
    back = [];
    sent = [];
    owed = [];
    is = refl;
    written = Appends-nil out.held;
    parts = refl;
    covered = inl refl;
  };
}

-- more is read, or nothing
pub way_read : {K : Type 0} (first : Session) (way : Way) (now : Option (List ℕ)) (server : Server K)
    (rest rest_now : List ℕ) → ReadsOn way.left_now now rest rest_now → IsUnderWay first way server rest
    → IsUnderWay first (record way { left_now = now }) server rest_now
way_read first way now server rest rest_now read under = record {
  came = under.came;
  began = under.began;
  is_read = read.onward way.left (messages_of under.came) under.is_read;
  stands = under.stands;
  given = under.given;
  ahead = under.ahead;
}

-- what is collected goes out
given_flushed : (start : Option (List ℕ)) (before after : Outgoing) (replies : List (List ℕ))
    → Collects before after [] → IsGiven start before replies → IsGiven start after replies
given_flushed start before after replies flushed given =
    subst (IsGiven start after) (append-nil replies) (flushed.onward start replies given)

-- what was written of replies, and what is owed of them
record IsPart (sent : List ℕ) (replies : List (List ℕ)) : Type 0 where
  owed : List ℕ
  parts : sent ++ owed ≡ concat replies

part_of : (broken : Bool) (sent waiting : List ℕ) (replies : List (List ℕ)) → AreGiven broken sent waiting replies
    → IsPart sent replies
part_of true sent waiting replies given = record { owed = given.rest; parts = given.is }
part_of false sent waiting replies given = record { owed = waiting; parts = given }

-- all lines of these messages are stored, so what was written is behind its lines
ahead_all : (first : Session) (start : Option (List ℕ)) (out : Outgoing) (came : List Came) (stored : List Line)
    → IsGiven start out (session_from first came).replies → IsPrefix (session_from first came).lines stored
    → IsAheadOf first start out.held came stored
ahead_all first start out came stored given all =
    let part = part_of out.broken given.sent out.waiting (session_from first came).replies given.are_given in
    record {
      front = came;
      back = [];
      sent = given.sent;
      owed = part.owed;
      is = append-nil came;
      written = given.written;
      parts = part.parts;
      covered = inr all;
    }

-- nothing more is written
ahead_still : (first : Session) (start held held_now : Option (List ℕ)) (came more : List Came)
    (stored stored_now : List Line) → IsPrefix stored stored_now → held_now ≡ held
    → IsAheadOf first start held came stored → IsAheadOf first start held_now (came ++ more) stored_now
ahead_still first start held held_now came more stored stored_now grows same ahead = record {
  front = ahead.front;
  back = ahead.back ++ more;
  sent = ahead.sent;
  owed = ahead.owed;
  is = sym (append_assoc ahead.front ahead.back more) ∙ ap (λ l. l ++ more) ahead.is;
  written = subst (λ h. Appends start h ahead.sent) (sym same) ahead.written;
  parts = ahead.parts;
  covered = on ahead.covered;
}
  where
    on : (ahead.sent ≡ []) ⊎ IsPrefix (session_from first ahead.front).lines stored
        → (ahead.sent ≡ []) ⊎ IsPrefix (session_from first ahead.front).lines stored_now
    on (inl none) = inl none
    on (inr had) = inr (of_another _ _ _ had grows)

-- messages more, whose replies were collected, and some perhaps written behind all lines
ahead_more : (first : Session) (start : Option (List ℕ)) (before after : Outgoing) (came more : List Came)
    (stored stored_now lines : List Line) → IsPrefix stored stored_now
    → (after.held ≡ before.held) ⊎ IsPrefix lines stored_now
    → (session_from first (came ++ more)).lines ≡ lines
    → IsGiven start after (session_from first (came ++ more)).replies
    → IsAheadOf first start before.held came stored → IsAheadOf first start after.held (came ++ more) stored_now
ahead_more first start before after came more stored stored_now lines grows (inl same) stands given ahead =
    ahead_still first start before.held after.held came more stored stored_now grows same ahead
ahead_more first start before after came more stored stored_now lines grows (inr all) stands given ahead =
    ahead_all first start after (came ++ more) stored_now given (subst (λ l. IsPrefix l stored_now) (sym stands) all)

-- no message is at hand
pub way_rests : {K : Type 0} (first : Session) (way : Way) (after : Outgoing) (old new : Server K) (rest : List ℕ)
    → Rests old new way.out after → IsUnderWay first way old rest
    → IsUnderWay first (record way { out = after }) new rest
way_rests first way after old new rest rests under =
    let came = under.came in
    let stands : session_with new (session_from first came).replies ≡ session_from first came =
    rests.stays (session_from first came).replies ∙ under.stands in
    let given = given_flushed way.start way.out after (session_from first came).replies rests.flushed under.given in
    let same : came ++ [] ≡ came = append-nil came in
    record {
      came = came;
      began = under.began;
      is_read = under.is_read;
      stands = stands;
      given = given;
      ahead = subst (λ c. IsAheadOf first way.start after.held c new.desk.stored) same
          (ahead_more first way.start way.out after came [] old.desk.stored new.desk.stored new.desk.lines
          rests.behind.0 rests.behind.1
          (ap (λ c. (session_from first c).lines) same ∙ sym (ap (λ s. s.lines) stands))
          (subst (λ c. IsGiven way.start after (session_from first c).replies) (sym same) given) under.ahead);
    }

-- a message is answered
pub way_more : {K : Type 0} (first : Session) (way : Way) (after : Outgoing) (old new : Server K)
    (message rest rest_now : List ℕ) → old.handshake.over ≡ false → Takes message rest rest_now
    → IsAnswered old new way.out after message → IsUnderWay first way old rest
    → IsUnderWay first (record way { out = after }) new rest_now
way_more first way after old new message rest rest_now live takes answered before =
    let c : Came = record { message = message; refused = answered.met.refused } in
    let came = before.came in
    let replies = (session_from first came).replies in
    let one : session_from first (came ++ c ∷ []) ≡ with_message (session_from first came) c = from_more first came c in
    let next : session_with new (replies ++ answered.replies) ≡ session_from first (came ++ c ∷ []) =
    answered.met.is replies ∙ ap (λ s. with_message s c) before.stands ∙ sym one in
    let gets : replies ++ answered.replies ≡ (session_from first (came ++ c ∷ [])).replies = ap (λ s. s.replies) next in
    let given : IsGiven way.start after (replies ++ answered.replies) =
    answered.collected.onward way.start replies before.given in
    let far : (session_from first came).handshake ≡ handshake_of (messages_of came) = as_far first came before.began in
    let over : (handshake_of (messages_of came)).over ≡ false =
    sym (ap (λ h. h.over) (ap (λ s. s.handshake) before.stands ∙ far)) ∙ live in
    let more : messages_of (came ++ c ∷ []) ≡ messages_of came ++ message ∷ [] =
    map-append (λ (c : Came). c.message) came (c ∷ []) in
    let R : List (List ℕ) → Type 0 = λ messages. IsRead way.left way.left_now messages rest_now in
    let P : List (List ℕ) → Type 0 = IsGiven way.start after in
    record {
      came = came ++ c ∷ [];
      began = before.began;
      is_read = subst R (sym more) (takes.onward way.left way.left_now (messages_of came) over before.is_read);
      stands = ap (session_with new) (sym gets) ∙ next;
      given = subst P gets given;
      ahead = ahead_more first way.start way.out after came (c ∷ []) old.desk.stored new.desk.stored new.desk.lines
          answered.behind.0 answered.behind.1 (sym (ap (λ s. s.lines) next)) (subst P gets given) before.ahead;
    }

-- no more bytes come
pub way_ends : {K : Type 0} (first : Session) (way : Way) (now : Option (List ℕ)) (server : Server K)
    (rest rest_now : List ℕ) (fault : Option Fault) → ReadsOn way.left_now now rest rest_now
    → length rest_now ≤ 8192 → server.handshake.over ≡ false → IsEnding fault false rest_now now
    → IsUnderWay first way server rest → HasEnded first (record way { left_now = now }) server fault
way_ends first way now server rest rest_now fault read bounded live ending under =
    let P : Bool → Type 0 = λ over. IsEnding fault over rest_now now in
    record {
      rest = rest_now;
      bounded = bounded;
      under = way_read first way now server rest rest_now read under;
      ending = inr (subst P (sym live) ending);
    }

-- what is left of its replies goes out at the end, or is lost
pub ended_rests : {K : Type 0} (first : Session) (way : Way) (after : Outgoing) (old new : Server K)
    (fault fault_now : Option Fault) → new.handshake.over ≡ old.handshake.over → Rests old new way.out after
    → (fault_now ≡ Some Unstored) ⊎ (fault_now ≡ fault) → HasEnded first way old fault
    → HasEnded first (record way { out = after }) new fault_now
ended_rests first way after old new fault fault_now over rests told ended = record {
  rest = ended.rest;
  bounded = ended.bounded;
  under = way_rests first way after old new ended.rest rests ended.under;
  ending = by told;
}
  where
    ends : (f : Option Fault) → f ≡ fault → (fault ≡ Some Unstored) ⊎ IsEnding fault old.handshake.over ended.rest way.left_now
        → (f ≡ Some Unstored) ⊎ IsEnding f new.handshake.over ended.rest way.left_now
    ends f same (inl unstored) = inl (same ∙ unstored)
    ends f same (inr ending) = inr (rw (same, over) ending)

    by : (fault_now ≡ Some Unstored) ⊎ (fault_now ≡ fault)
        → (fault_now ≡ Some Unstored) ⊎ IsEnding fault_now new.handshake.over ended.rest way.left_now
    by (inl unstored) = inl unstored
    by (inr same) = ends fault_now same ended.ending
