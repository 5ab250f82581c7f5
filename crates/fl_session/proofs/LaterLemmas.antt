-- Messages that come later, without a mark, to a session that went on and to one that wasn't cut off.
use Rattle.std.proofs.Common.{◌≡◌, ℕ, Bool, true, false, List, [], ◌∷◌, None}
use Rattle.std.proofs.Common.{refl, ap, ◌∙◌}
use Rattle.std.specs.Prelude.{if◌then◌else◌, nat_le, ◌^◌}
use Rattle.fl_session.specs.Again.{unmarked}
use Rattle.fl_session.specs.AsOne.{AllPlain, AreAsOne, replies_again}
use Rattle.fl_session.specs.Session.{Came, Session, session_from, with_either, with_incoming}
use Rattle.fl_session.specs.Session.{with_message}
use Rattle.fl_transport.specs.Handshake.{advanced, incoming_of}
use Rattle.fl_transport.specs.declared.handshake.Handshake.{Handshake}
use Rattle.fl_transport.specs.declared.handshake.Incoming.{Incoming}
use Rattle.fl_transport.specs.declared.handshake.Incoming.TheVariants as incoming
use Rattle.fl_wire.specs.Layout.{unique_of}
use Rattle.fl_session.proofs.OnceLemmas.{GoAlike, as_one, goes_by, moved_alike, orders_go, response_goes}

incoming_goes : (a b : List (List ℕ)) (s t : Session) (refused : List Bool) (it : Incoming) → GoAlike a b s t
    → GoAlike a b (with_incoming s refused it) (with_incoming t refused it)
incoming_goes a b s t refused (incoming.Order order) g = orders_go a b s t (order ∷ []) refused g
incoming_goes a b s t refused (incoming.Batch orders) g = orders_go a b s t orders refused g
incoming_goes a b s t refused (incoming.Response response) g = response_goes a b s t response g

goes_if : (over : Bool) (a b : List (List ℕ)) (s t now after : Session) → GoAlike a b s t → GoAlike a b now after
    → GoAlike a b (if over then s else now) (if over then t else after)
goes_if true a b s t now after first second = first
goes_if false a b s t now after first second = second

-- a session that is whole or isn't, and as far as this, with a message that isn't known as one that is sent again
abbrev pub with_plain : Session → Bool → Handshake → Came → Session
with_plain s whole h c =
    if h.over then s
    else with_incoming (record s { handshake = advanced h c.message }) c.refused (incoming_of whole h c.message)

pub plain_is : (s : Session) (c : Came) → nat_le (2 ^ 63) (unique_of c.message) ≡ false
    → with_message s c ≡ with_plain s s.rules.whole s.handshake c
plain_is s c plain = ap (λ marked. if s.handshake.over then s
    else with_either (record s { handshake = advanced s.handshake c.message }) marked c.refused (incoming_of s.rules.whole s.handshake c.message))
    (none s.resends)
  where
    none : (resends : Bool) → unmarked resends (unique_of c.message) ≡ None
    none true = rw plain refl
    none false = refl

plain_goes : (a b : List (List ℕ)) (s t : Session) (c : Came) → nat_le (2 ^ 63) (unique_of c.message) ≡ false
    → GoAlike a b s t → GoAlike a b (with_message s c) (with_message t c)
plain_goes a b s t c plain g =
    let h : Handshake = t.handshake in
    goes_by a b (with_message s c) (with_message t c) (with_plain s t.rules.whole h c)
    (with_plain t t.rules.whole h c)
    (plain_is s c plain ∙ (λ i. with_plain s (g.alike.rules i).whole (g.alike.handshake i) c)) (plain_is t c plain)
    (goes_if h.over a b s t _ _ g
    (incoming_goes a b (record s { handshake = advanced h c.message }) (record t { handshake = advanced h c.message }) c.refused
    (incoming_of t.rules.whole h c.message) (moved_alike a b s t (advanced h c.message) g)))

later_goes : (a b : List (List ℕ)) (s t : Session) (later : List Came) → AllPlain later → GoAlike a b s t
    → GoAlike a b (session_from s later) (session_from t later)
later_goes a b s t [] plain g = g
later_goes a b s t (c ∷ later) plain g =
    later_goes a b (with_message s c) (with_message t c) later plain.1 (plain_goes a b s t c plain.0 g)

pub later_as_one : (first other one : Session) (again later : List Came) → AreAsOne first other one again → AllPlain later
    → AreAsOne first (session_from other later) (session_from one later) again
later_as_one first other one again later two plain =
    as_one first (session_from other later) (session_from one later) again
    (later_goes (replies_again first again) first.replies other one later plain (record {
      alike = record {
        rules = ap (λ s. s.rules) two.resumed;
        heard = ap (λ s. s.heard) two.resumed;
        handshake = ap (λ s. s.handshake) two.resumed;
        lines = two.lines;
      };
      rest = two.rest;
      left = two.of_other;
      right = two.of_one;
    }))
