-- What a session sends that goes on behind the lines of one that was cut off, and what makes the two as one.
use Rattle.std.specs.Prelude.{◌≡◌, ℕ, ◌≤◌, ◌^◌, nat_le, Bool, true, false, List, [], ◌∷◌, ◌++◌, drop, take, flat_map}
use Rattle.std.specs.Prelude.{if◌then◌else◌, Option, None, Some, Err}
use Rattle.std.specs.List.{AllByRecursion}
use Rattle.fl_desk.specs.Replay.{state_after}
use Rattle.fl_history.specs.declared.recent.Recalled.{Recalled}
use Rattle.fl_history.specs.declared.recent.Recalled.TheVariants as recall
use Rattle.fl_order.specs.declared.refusal.Refusal.TheVariants.{Batch}
use Rattle.fl_session.specs.Again.{response_under, unmarked}
use Rattle.fl_session.specs.Once.{AllComeAgain, AreNew, IsUnknown, SaysTheSame, resumed, under_way}
use Rattle.fl_session.specs.Session.{Came, Session, recalled_in, with_orders}
use Rattle.fl_session.specs.Whole.{bytes_in}
use Rattle.fl_transport.specs.Handshake.{incoming_by, said_to}
use Rattle.fl_transport.specs.declared.handshake.Incoming.{Incoming}
use Rattle.fl_transport.specs.declared.handshake.Incoming.TheVariants as incoming
use Rattle.fl_waiting.specs.Waiting.{is_parked}
use Rattle.fl_wire.specs.Batch.{forgets_in}
use Rattle.fl_wire.specs.Layout.{unique_of}
use Rattle.fl_wire.specs.Spell.{spelling_of}

-- ---- what is sent to messages that come again

-- the reply that lines have if they say this of a unique
abbrev pub reply_in : Recalled → List (List ℕ)
reply_in (recall.Told told) = spelling_of told ∷ []
reply_in (recall.Asked count) = []

-- What a session sends if it has the orders of this unique: nothing while a request of it is parked, else the reply
-- that the last lines have, if they have one.
abbrev pub reply_had : Session → ℕ → List (List ℕ)
reply_had s unique =
    if is_parked unique (state_after s.rules s.lines).view.parked then []
    else reply_in (recalled_in s unique)

-- what it sends when a message of this unique comes again: that, or what the session itself answers
abbrev pub reply_again : Session → ℕ → Incoming → List (List ℕ)
reply_again s unique (incoming.Order order) = reply_had s unique
reply_again s unique (incoming.Batch orders) = reply_had s unique
reply_again s unique (incoming.Response response) = bytes_in s.rules s.lines (response_under unique response)

-- the same of a message that has this unique without its mark, if it has a mark
abbrev pub reply_unmarked : Session → Option ℕ → Incoming → List (List ℕ)
reply_unmarked s None it = []
reply_unmarked s (Some unique) it = reply_again s unique it

-- all that a session sends when these messages come again
abbrev pub replies_again : Session → List Came → List (List ℕ)
replies_again s came =
    flat_map (λ c. reply_unmarked s (unmarked true (unique_of c.message))
    (incoming_by c.message (said_to s.rules.whole c.message))) came

-- ---- two sessions as one

-- A session was cut off while it was under way. Messages come again to another: first those whose orders the lines
-- have, and then, with a mark, those that are new to it.
pub record IsSentAgain (first : Session) (again unread marked : List Came) : Type 0 where
  pub far : first.handshake ≡ under_way
  pub had : AllComeAgain first again
  pub new : AreNew first unread marked

-- A first session was cut off, and another went on behind its lines, to which these messages came again. One session
-- wasn't cut off. It has the lines of the other. Its replies are those of the first session, and then the rest. The
-- other sent what it sends when those messages come again, and then the same rest. If it is cut off too, it is resumed
-- as the one would be.
pub record AreAsOne (first other one : Session) (again : List Came) : Type 0 where
  pub rest : List (List ℕ)
  pub lines : other.lines ≡ one.lines
  pub of_one : one.replies ≡ first.replies ++ rest
  pub of_other : other.replies ≡ replies_again first again ++ rest
  pub resumed : resumed other ≡ resumed one

-- these messages have no mark
abbrev pub AllPlain : List Came → Type 0
AllPlain came = AllByRecursion (λ (c : Came). nat_le (2 ^ 63) (unique_of c.message) ≡ false) came

-- ---- a cut inside a batch

-- none of these orders was refused
abbrev pub NoneRefused : List Bool → Type 0
NoneRefused refused = AllByRecursion (λ (r : Bool). r ≡ false) refused

-- a session with so many orders of a batch, of which none was refused
abbrev pub part_of : Session → List ℕ → ℕ → Session
part_of s batch count = with_orders s (take count (forgets_in batch)) []

-- A session was cut off behind so many orders of a batch whose unique was new to it, and had refused none of these. The
-- batch comes again with a mark, and its other orders are refused or not as those of the batch. A batch has at most 509
-- orders, so `few` is so.
pub record IsCutInside (s : Session) (count : ℕ) (batch marked : Came) : Type 0 where
  pub is_batch : said_to s.rules.whole batch.message ≡ Err Batch
  pub same : SaysTheSame batch.message marked.message
  pub unknown : IsUnknown s (unique_of batch.message)
  pub unrefused : NoneRefused (take count batch.refused)
  pub refused : marked.refused ≡ drop count batch.refused
  pub few : count ≤ 65536
