-- A session that is under way: what it did with its reader and its writer so far.
use Rattle.std.specs.Prelude.{◌≡◌, ◌⊎◌, ℕ, ◌≤◌, List, [], ◌++◌, length, Option, Some}
use Rattle.std.specs.List.{concat}
use Rattle.std.specs.Io.KnownBytes.{Appends}
use mathlib.Core.List.{IsPrefix}
use Rattle.fl_desk.specs.Kept.{Book}
use Rattle.fl_history.specs.declared.history.Line.{Line}
use Rattle.fl_order.specs.declared.order.Order.{Order}
use Rattle.fl_session.specs.Inside.Serving.{session_with, AreTaken, AreTakenAgain, IsMet, IsTaken}
use Rattle.fl_session.specs.Session.{Came, Session, messages_of, session_from}
use Rattle.fl_session.specs.declared.server.Server.{Server}
use Rattle.fl_transport.specs.Collecting.{Collects, IsGiven, Outgoing}
use Rattle.fl_transport.specs.Ending.{IsEnding, IsRead}
use Rattle.fl_transport.specs.Handshake.{opening}
use Rattle.fl_transport.specs.declared.fault.Fault.{Fault}
use Rattle.fl_transport.specs.declared.fault.Fault.TheVariants.{Unstored}

-- what a session's reader and its writer had when it began, what is left to read now, and what goes out now
pub record Way : Type 0 where
  pub left : Option (List ℕ)
  pub left_now : Option (List ℕ)
  pub start : Option (List ℕ)
  pub out : Outgoing

-- What the writer holds behind what it held are replies to messages at the front of those that came, and the lines of
-- the session of these, which began as this one, are stored. (Nothing may be written, and then no line has to be
-- stored.)
pub record IsAheadOf (first : Session) (start held : Option (List ℕ)) (came : List Came) (stored : List Line)
    : Type 0 where
  pub front : List Came
  pub back : List Came
  pub sent : List ℕ
  pub owed : List ℕ
  pub is : front ++ back ≡ came
  pub written : Appends start held sent
  pub parts : sent ++ owed ≡ concat (session_from first front).replies
  pub covered : (sent ≡ []) ⊎ IsPrefix (session_from first front).lines stored

-- Something is written only where all lines are stored then.
abbrev pub WritesBehind : Book → Book → Outgoing → Outgoing → Type 0
WritesBehind old new before after =
    IsPrefix old.stored new.stored × ((after.held ≡ before.held) ⊎ IsPrefix new.lines new.stored)

-- What was read is whole messages and a rest, the server stands where the session of these messages that began so
-- stands, and its replies were written but for those that wait, or a beginning of them, behind their lines.
pub record IsUnderWay {K : Type 0} (first : Session) (way : Way) (server : Server K) (rest : List ℕ) : Type 0 where
  pub came : List Came
  pub began : first.handshake ≡ opening
  pub is_read : IsRead way.left way.left_now (messages_of came) rest
  pub stands : session_with server (session_from first came).replies ≡ session_from first came
  pub given : IsGiven way.start way.out (session_from first came).replies
  pub ahead : IsAheadOf first way.start way.out.held came server.desk.stored

-- a message is answered, and its replies are collected
pub record IsAnswered {K : Type 0} (old new : Server K) (before after : Outgoing) (message : List ℕ) : Type 0 where
  pub replies : List (List ℕ)
  pub met : IsMet old new replies message
  pub collected : Collects before after replies
  pub behind : WritesBehind old.desk new.desk before after

-- an order is taken, and its replies are collected
pub record TakesOne {K : Type 0} (old new : Server K) (before after : Outgoing) (order : Order) : Type 0 where
  pub replies : List (List ℕ)
  pub taken : IsTaken old new replies order
  pub collected : Collects before after replies
  pub behind : WritesBehind old.desk new.desk before after

-- the same of orders of which these are left
pub record TakesMany {K : Type 0} (old new : Server K) (before after : Outgoing) (orders left : List Order)
    : Type 0 where
  pub replies : List (List ℕ)
  pub taken : AreTaken old new replies orders left
  pub collected : Collects before after replies
  pub stored : IsPrefix old.desk.stored new.desk.stored
  pub unwritten : after.held ≡ before.held

-- orders of this unique that are sent again are taken or answered, and their replies are collected
pub record TakesAgain {K : Type 0} (old new : Server K) (before after : Outgoing) (unique : ℕ) (orders : List Order)
    : Type 0 where
  pub replies : List (List ℕ)
  pub taken : AreTakenAgain old new replies unique orders
  pub collected : Collects before after replies
  pub behind : WritesBehind old.desk new.desk before after

-- what is collected goes out, or is lost, and nothing else changes
pub record Rests {K : Type 0} (old new : Server K) (before after : Outgoing) : Type 0 where
  pub none : after.waiting ≡ []
  pub stays : (replies : List (List ℕ)) → session_with new replies ≡ session_with old replies
  pub flushed : Collects before after []
  pub behind : WritesBehind old.desk new.desk before after

-- the session that began so ended, with this fault of its reader, or since lines couldn't be stored
pub record HasEnded {K : Type 0} (first : Session) (way : Way) (server : Server K) (fault : Option Fault) : Type 0 where
  pub rest : List ℕ
  pub bounded : length rest ≤ 8192
  pub under : IsUnderWay first way server rest
  pub ending : (fault ≡ Some Unstored) ⊎ IsEnding fault server.handshake.over rest way.left_now
