-- A session that was cut off and goes on behind its lines, and messages that are sent again to it.
use Rattle.std.specs.Prelude.{◌≡◌, ℕ, ◌||◌, nat_le, Bool, true, false, List, [], ◌∷◌, length, Some, ⊤}
use Rattle.fl_desk.specs.Replay.{state_after}
use Rattle.fl_history.specs.declared.recent.Recalled.{Recalled}
use Rattle.fl_history.specs.declared.recent.Recalled.TheVariants as recall
use Rattle.fl_order.specs.declared.order.Order.{Order}
use Rattle.fl_session.specs.Again.{incoming_under, unmarked}
use Rattle.fl_session.specs.Session.{Came, Session, recalled_in, session_behind, with_message}
use Rattle.fl_transport.specs.Handshake.{incoming_by, said_to, says_destroy}
use Rattle.fl_transport.specs.declared.handshake.Handshake.{Handshake}
use Rattle.fl_transport.specs.declared.handshake.Incoming.{Incoming}
use Rattle.fl_transport.specs.declared.handshake.Incoming.TheVariants as incoming
use Rattle.fl_waiting.specs.Waiting.{is_parked}
use Rattle.fl_wire.specs.Layout.{unique_of}
use Rattle.fl_wire.specs.Says.{said}

-- an INIT is agreed, and no DESTROY came
abbrev pub under_way : Handshake
under_way = record { agreed = true; over = false }

-- a session that goes on behind the lines of this one, heard the same before them, and is as far
abbrev pub resumed : Session → Session
resumed s = record (session_behind s.rules s.heard s.lines true) { handshake = s.handshake }

-- the orders of a message; none if the session itself answers it
abbrev pub orders_in : Incoming → List Order
orders_in (incoming.Order order) = order ∷ []
orders_in (incoming.Batch orders) = orders
orders_in (incoming.Response response) = []

-- lines that say this of a unique have a reply to it, or so many orders of it
abbrev pub has_all : Recalled → ℕ → Bool
has_all (recall.Told told) count = true
has_all (recall.Asked asked) count = nat_le count asked

-- in a session a request of this unique is parked, or the last lines have a reply to it, or so many orders of it
abbrev pub is_had : Session → ℕ → ℕ → Bool
is_had s unique count =
    is_parked unique (state_after s.rules s.lines).view.parked || has_all (recalled_in s unique) count

-- a message is marked as one that is sent again, is no DESTROY, and the session has its orders
pub record ComesAgain (s : Session) (message : List ℕ) : Type 0 where
  pub unique : ℕ
  pub marked : unmarked true (unique_of message) ≡ Some unique
  pub stays : says_destroy (said message) ≡ false
  pub had : is_had s unique (length (orders_in (incoming_by message (said_to s.rules.whole message)))) ≡ true

-- the same of each of these
abbrev pub AllComeAgain : Session → List Came → Type 0
AllComeAgain s [] = ⊤
AllComeAgain s (c ∷ came) = ComesAgain s c.message × AllComeAgain s came

-- a message with a mark says what one without it says, to a session that is whole and to one that isn't
pub record SaysTheSame (message marked : List ℕ) : Type 0 where
  pub mark : unmarked true (unique_of marked) ≡ Some (unique_of message)
  pub says : (whole : Bool) → incoming_under (unique_of message) (incoming_by marked (said_to whole marked))
      ≡ incoming_by message (said_to whole message)
  pub ends : says_destroy (said marked) ≡ says_destroy (said message)

-- in a session no request of this unique is parked, and the last lines say nothing of it
pub record IsUnknown (s : Session) (unique : ℕ) : Type 0 where
  pub free : is_parked unique (state_after s.rules s.lines).view.parked ≡ false
  pub unsaid : recalled_in s unique ≡ recall.Asked 0

-- Each of these messages is unknown to a session that goes on by those before it. The others are the same messages with
-- a mark, and their orders are refused or not as those of these.
abbrev pub AreNew : Session → List Came → List Came → Type 0
AreNew s [] [] = ⊤
AreNew s [] (m ∷ marked) = ⊥
AreNew s (c ∷ came) [] = ⊥
AreNew s (c ∷ came) (m ∷ marked) =
    SaysTheSame c.message m.message × (m.refused ≡ c.refused) × IsUnknown s (unique_of c.message)
    × AreNew (with_message s c) came marked
