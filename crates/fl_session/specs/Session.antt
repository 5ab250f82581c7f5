-- A session: its messages, what is answered to them, and the lines that they give (Linux `fuse.h`, protocol 7.31).
use Rattle.std.specs.Prelude.{ℕ, Bool, true, false, List, [], ◌∷◌, ◌++◌, map, drop, fold, if◌then◌else◌}
use Rattle.std.specs.Prelude.{Option, None, Some}
use Rattle.fl_core.specs.Step.{replies_in}
use Rattle.fl_counter.specs.Answered.{step_lines}
use Rattle.fl_desk.specs.Replay.{state_after}
use Rattle.fl_history.specs.Recent.{recalled, recent}
use Rattle.fl_history.specs.declared.history.Line.{Line}
use Rattle.fl_history.specs.declared.recent.Recalled.{Recalled}
use Rattle.fl_history.specs.declared.recent.Recalled.TheVariants as recall
use Rattle.fl_order.specs.Order.{kind_of}
use Rattle.fl_order.specs.declared.order.Order.{Order}
use Rattle.fl_order.specs.declared.told.Told.{Told}
use Rattle.fl_session.specs.Again.{incoming_under, unmarked}
use Rattle.fl_session.specs.Whole.{bytes_in}
use Rattle.fl_transport.specs.Handshake.{advanced, incoming_of, opening}
use Rattle.fl_transport.specs.Response.{bytes_of, lost}
use Rattle.fl_transport.specs.declared.handshake.Handshake.{Handshake}
use Rattle.fl_transport.specs.declared.handshake.Incoming.{Incoming}
use Rattle.fl_transport.specs.declared.handshake.Incoming.TheVariants as incoming
use Rattle.fl_transport.specs.declared.response.Response.{Response}
use Rattle.fl_transport.specs.declared.response.Response.TheVariants.{One}
use Rattle.fl_waiting.specs.Waiting.{is_parked}
use Rattle.fl_waiting.specs.declared.rules.Rules.{Rules}
use Rattle.fl_wire.specs.Layout.{unique_of}
use Rattle.fl_wire.specs.Spell.{spelling_of}

-- A message that came, and for each of its orders that is new, in their order, whether it was refused because memory
-- ran out. If the list ends early, the orders left were not refused.
pub record Came : Type 0 where
  pub message : List ℕ
  pub refused : List Bool

-- the messages themselves
abbrev pub messages_of : List Came → List (List ℕ)
messages_of came = map (λ c. c.message) came

-- A session so far: the rules by which requests wait, the lines before its own that messages sent again may tell of,
-- whether it knows such messages, how far its messages brought it, the bytes of each reply, its lines, and whether some
-- order was refused because memory ran out. If its lines begin with a head, those before them stand in other pieces.
pub record Session : Type 0 where
  pub rules : Rules
  pub heard : List Line
  pub resends : Bool
  pub handshake : Handshake
  pub replies : List (List ℕ)
  pub lines : List Line
  pub refused : Bool

-- No message came yet, requests will wait by these rules, and messages that are sent again aren't known.
abbrev pub opening_session : Rules → Session
opening_session rules =
    record { rules = rules; heard = []; resends = false; handshake = opening; replies = []; lines = []; refused = false }

-- No message came yet. The session heard these lines, goes on behind these others, and knows messages that are sent
-- again or doesn't.
abbrev pub session_behind : Rules → List Line → List Line → Bool → Session
session_behind rules heard base resends =
    record (opening_session rules) { heard = heard; lines = base; resends = resends }

-- what the last lines of a session, with those that were heard before them, say of the order of this unique
abbrev pub recalled_in : Session → ℕ → Recalled
recalled_in s unique = recalled unique (recent (s.heard ++ s.lines))

-- this is answered, perhaps from what is there
abbrev pub with_response : Session → Response → Session
with_response s response = record s { replies = s.replies ++ bytes_in s.rules s.lines response }

-- an order that worker 0 handed in, with the replies that it gets
abbrev pub with_step : Session → Order → List Told → Session
with_step s order tolds =
    record s { replies = s.replies ++ map spelling_of tolds; lines = s.lines ++ step_lines 0 order tolds }

-- An order for which memory ran out gets its error, or is lost if no reply is owed to it.
abbrev pub with_refusal : Session → Order → Session
with_refusal s order =
    record s { replies = s.replies ++ bytes_of (lost (kind_of order.op) order.unique); refused = true }

-- an order gets the replies of the lock directory, or is refused because memory ran out
abbrev pub with_order : Session → Bool → Order → Session
with_order s refused order =
    if refused then with_refusal s order else with_step s order (replies_in (state_after s.rules s.lines) order)

-- orders one after another, each refused or not
abbrev pub with_orders : Session → List Order → List Bool → Session
with_orders s [] refused = s
with_orders s (order ∷ orders) [] = with_orders (with_order s false order) orders []
with_orders s (order ∷ orders) (first ∷ refused) = with_orders (with_order s first order) orders refused

-- the orders of a message are taken, or the session itself answers it
abbrev pub with_incoming : Session → List Bool → Incoming → Session
with_incoming s refused (incoming.Order order) = with_orders s (order ∷ []) refused
with_incoming s refused (incoming.Batch orders) = with_orders s orders refused
with_incoming s refused (incoming.Response response) = with_response s response

-- Orders are sent again of which lines say this: their reply is sent once more, or as many as were asked are left out.
abbrev pub with_recalled : Session → Recalled → List Order → List Bool → Session
with_recalled s (recall.Told told) orders refused = with_response s (One told)
with_recalled s (recall.Asked count) orders refused = with_orders s (drop count orders) refused

-- Orders of this unique are sent again. A request that is parked goes on waiting. Of any other the last lines tell.
abbrev pub with_orders_again : Session → ℕ → List Order → List Bool → Session
with_orders_again s unique orders refused =
    if is_parked unique (state_after s.rules s.lines).view.parked then s
    else with_recalled s (recalled_in s unique) orders refused

-- a message of this unique is sent again; what is no order is answered anew
abbrev pub with_again : Session → ℕ → List Bool → Incoming → Session
with_again s unique refused (incoming.Order order) = with_orders_again s unique (order ∷ []) refused
with_again s unique refused (incoming.Batch orders) = with_orders_again s unique orders refused
with_again s unique refused (incoming.Response response) = with_response s response

-- a message is new, or is sent again under this unique
abbrev pub with_either : Session → Option ℕ → List Bool → Incoming → Session
with_either s None refused it = with_incoming s refused it
with_either s (Some unique) refused it = with_again s unique refused (incoming_under unique it)

-- one message more; after a DESTROY that ended the session nothing comes
abbrev pub with_message : Session → Came → Session
with_message s came =
    if s.handshake.over then s
    else with_either (record s { handshake = advanced s.handshake came.message })
    (unmarked s.resends (unique_of came.message)) came.refused (incoming_of s.rules.whole s.handshake came.message)

-- a session that goes on by these messages
abbrev pub session_from : Session → List Came → Session
session_from s came = fold with_message s came

-- the session of these messages, under these rules
abbrev pub session_of : Rules → List Came → Session
session_of rules came = session_from (opening_session rules) came
