-- A server that is under way: what is kept of its session, and what a message changes.
use Rattle.std.specs.Prelude.{◌≡◌, ℕ, Bool, false, List, ◌++◌, Option, None, Some, is_some, IfSome, if◌then◌else◌}
use Rattle.fl_counter.specs.Tolds.{HasRoom}
use Rattle.fl_desk.specs.Replay.{state_after}
use Rattle.fl_history.specs.Recent.{recalled, recent}
use Rattle.fl_history.specs.declared.history.Line.{Line}
use Rattle.fl_history.specs.declared.recent.Recalled.{Recalled}
use Rattle.fl_order.specs.declared.order.Order.{Order}
use Rattle.fl_session.specs.Session.{Session, with_message, with_order, with_orders, with_orders_again}
use Rattle.fl_session.specs.declared.server.Server.{Server}
use Rattle.fl_transport.specs.Handshake.{opening}
use Rattle.fl_waiting.specs.Waiting.{is_parked}
use Rattle.fl_waiting.specs.declared.rules.Rules.{Rules}

-- The session that a server keeps, by the rules of its desk, and that got these replies. It knows messages that are
-- sent again if the server recalls lines.
abbrev pub session_with : {K : Type 0} → Server K → List (List ℕ) → Session
session_with server replies =
    record {
      rules = server.desk.present.rules;
      heard = server.heard.items;
      resends = is_some server.recent;
      handshake = server.handshake;
      replies = replies;
      lines = server.desk.lines;
      refused = server.refused;
    }

-- There is room for the replies that an order gets by the rules of its desk. If the server recalls lines, these are
-- those that were heard before, and those of its desk.
pub record IsReady {K : Type 0} (server : Server K) : Type 0 where
  pub room : HasRoom server.desk.present.rules server.tolds
  pub recalls : IfSome server.recent (λ lines. lines ≡ server.heard.items ++ server.desk.lines)

-- no message came yet, and it is ready for the first
pub record IsFresh {K : Type 0} (server : Server K) : Type 0 where
  pub ready : IsReady server
  pub handshake : server.handshake ≡ opening
  pub refused : server.refused ≡ false

-- a message is answered, whatever was answered before
pub record IsMet {K : Type 0} (old new : Server K) (replies : List (List ℕ)) (message : List ℕ) : Type 0 where
  pub refused : List Bool
  pub is : (before : List (List ℕ)) → session_with new (before ++ replies)
      ≡ with_message (session_with old before) (record { message = message; refused = refused })

-- the same of an order
pub record IsTaken {K : Type 0} (old new : Server K) (replies : List (List ℕ)) (order : Order) : Type 0 where
  pub refused : Bool
  pub is : (before : List (List ℕ)) → session_with new (before ++ replies)
      ≡ with_order (session_with old before) refused order

-- The same of orders of which these are left. What becomes of those, becomes of them behind the others.
pub record AreTaken {K : Type 0} (old new : Server K) (replies : List (List ℕ)) (orders left : List Order)
    : Type 0 where
  pub refused : List Bool
  pub is : (before : List (List ℕ)) (later : List Bool)
      → with_orders (session_with new (before ++ replies)) left later
      ≡ with_orders (session_with old before) orders (refused ++ later)

-- the same of orders of this unique that are sent again
pub record AreTakenAgain {K : Type 0} (old new : Server K) (replies : List (List ℕ)) (unique : ℕ) (orders : List Order)
    : Type 0 where
  pub refused : List Bool
  pub is : (before : List (List ℕ)) → session_with new (before ++ replies)
      ≡ with_orders_again (session_with old before) unique orders refused

-- What lines, with those that were heard before them, say of a unique under these rules, unless a request of it is
-- parked.
abbrev pub recalled_at : Rules → List Line → List Line → ℕ → Option Recalled
recalled_at rules heard lines unique =
    if is_parked unique (state_after rules lines).view.parked then None
    else Some (recalled unique (recent (heard ++ lines)))

-- the last lines with these behind them, if they are kept
abbrev pub with_lines : Option (List Line) → List Line → Option (List Line)
with_lines None more = None
with_lines (Some lines) more = Some (lines ++ more)
