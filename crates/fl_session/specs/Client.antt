-- What a client sends that uses each unique for one message, and sends messages again once its session is cut off.
use Rattle.std.specs.Prelude.{◌≡◌, ◌⊎◌, ℕ, true, false, List, ◌++◌, Contains}
use Rattle.std.specs.List.{AllByRecursion}
use Rattle.fl_desk.specs.Replay.{state_after}
use Rattle.fl_history.specs.Recent.{recalled}
use Rattle.fl_session.specs.Known.{HaveOwnUniques}
use Rattle.fl_session.specs.Once.{SaysTheSame, under_way}
use Rattle.fl_session.specs.Session.{Came, Session, recalled_in, session_from}
use Rattle.fl_waiting.specs.Waiting.{is_parked}
use Rattle.fl_wire.specs.Layout.{unique_of}

-- In a session a request of this unique is parked, or the last 65,536 orders and replies say of it what all lines say.
abbrev pub IsNear : Session → ℕ → Type 0
IsNear s unique =
    (is_parked unique (state_after s.rules s.lines).view.parked ≡ true)
    ⊎ (recalled_in s unique ≡ recalled unique (s.heard ++ s.lines))

-- A message is one of those that a session took, with a mark, and what the session has of it is near.
pub record IsOneAgain (s : Session) (taken : List Came) (message : List ℕ) : Type 0 where
  pub came : Came
  pub is : Contains taken came
  pub same : SaysTheSame came.message message
  pub near : IsNear s (unique_of came.message)

-- the same of each of these messages
abbrev pub AreOnesAgain : Session → List Came → List Came → Type 0
AreOnesAgain s taken again = AllByRecursion (λ (m : Came). IsOneAgain s taken m.message) again

-- A client has a session that is under way, and uses each unique for one message. The session takes the first of its
-- messages, refuses no order of them for memory, and isn't over behind them.
pub record HasTaken (s : Session) (taken unread : List Came) : Type 0 where
  pub began : s.handshake ≡ under_way
  pub own : HaveOwnUniques (s.heard ++ s.lines) (taken ++ unread)
  pub unrefused : (session_from s taken).refused ≡ false
  pub far : (session_from s taken).handshake ≡ under_way
