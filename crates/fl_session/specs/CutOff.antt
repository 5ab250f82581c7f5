-- The lines that a session leaves that was cut off.
use Rattle.std.specs.Prelude.{◌≡◌, ◌⊎◌, ℕ, ◌<◌, List, [], ◌∷◌, ◌++◌, length, map, take, Err}
use Rattle.fl_history.specs.declared.history.Line.{Line}
use Rattle.fl_history.specs.declared.history.Line.TheVariants as line
use Rattle.fl_order.specs.declared.refusal.Refusal.TheVariants.{Batch}
use Rattle.fl_order.specs.declared.told.Told.{Told}
use Rattle.fl_session.specs.Once.{under_way}
use Rattle.fl_session.specs.Session.{Came, Session, session_of, with_orders}
use Rattle.fl_transport.specs.Handshake.{said_to}
use Rattle.fl_waiting.specs.declared.rules.Rules.{Rules}
use Rattle.fl_wire.specs.Batch.{forgets_in}

-- lines with these replies behind them
abbrev pub with_replies : List Line → List Told → List Line
with_replies lines tolds = lines ++ map (λ told. line.Told told) tolds

-- a session with so many orders of a batch, each refused or not as the batch says
abbrev pub cut_in : Session → Came → ℕ → Session
cut_in s batch count = with_orders s (take count (forgets_in batch.message)) batch.refused

-- The lines are those of a session. It is under way, or no message is left: it took all, or a DESTROY ended it, behind
-- which messages are taken, and count for nothing.
pub record AreOfSession (s : Session) (left : List Came) (lines : List Line) : Type 0 where
  pub far : (left ≡ []) ⊎ (s.handshake ≡ under_way)
  pub stand : lines ≡ s.lines

-- The lines are those of a session that is under way, and of so many orders of the next message, which is a batch.
pub record AreOfPart (s : Session) (left : List Came) (lines : List Line) : Type 0 where
  pub batch : Came
  pub later : List Came
  pub count : ℕ
  pub next : left ≡ batch ∷ later
  pub is_batch : said_to s.rules.whole batch.message ≡ Err Batch
  pub far : s.handshake ≡ under_way
  pub some : count < length (forgets_in batch.message)
  pub stand : lines ≡ (cut_in s batch count).lines

-- A session took the first messages and some of the others, and perhaps a part of a batch. The lines are those of it.
pub record AreTakenOf (rules : Rules) (first others : List Came) (lines : List Line) : Type 0 where
  pub taken : List Came
  pub left : List Came
  pub is : taken ++ left ≡ others
  pub are : AreOfSession (session_of rules (first ++ taken)) left lines
      ⊎ AreOfPart (session_of rules (first ++ taken)) left lines
