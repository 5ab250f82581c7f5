-- What a session did with a reader and a writer.
use Rattle.std.specs.Prelude.{◌≡◌, ◌⊎◌, ℕ, ◌≤◌, Bool, true, false, List, [], ◌++◌, length, All, Some}
use Rattle.std.specs.List.{concat}
use Rattle.std.specs.Io.KnownBytes.{Appends}
use mathlib.Core.List.{IsPrefix}
use Rattle.fl_history.specs.declared.history.Line.{Line}
use Rattle.fl_session.specs.Session.{Came, Session, messages_of, opening_session, session_behind, session_from}
use Rattle.fl_session.specs.declared.done.Done.{Done}
use Rattle.fl_transport.specs.Collecting.{IsProperPrefix}
use Rattle.fl_transport.specs.Ending.{EndsBy, IsRead}
use Rattle.fl_transport.specs.Streams.{Streams}
use Rattle.fl_transport.specs.declared.fault.Fault.TheVariants.{Unstored}
use Rattle.fl_waiting.specs.declared.rules.Rules.{Rules}
use Rattle.fl_wire.specs.Spell.{IsReply}

-- If no write failed, these are all bytes of the replies. After a failed write they are only a prefix of them. A writer
-- shows no failure to contracts: that a write did fail if one is reported to have failed is tested, and not proved.
abbrev pub AreSent : Bool → List ℕ → List (List ℕ) → Type 0
AreSent false sent replies = sent ≡ concat replies
AreSent true sent replies = IsProperPrefix sent (concat replies)

-- What was read is whole messages and a rest of at most 8192 bytes. The history is the lines of the session that began
-- so and goes on by these messages, and its replies were written, each of which says its own length: all of them, or
-- after a failed write (`broken`) a prefix. If lines can't be stored, it ends behind any message.
pub record IsServedFrom (first : Session) (streams : Streams) (broken : Bool) (done : Done) : Type 0 where
  pub came : List Came
  pub rest : List ℕ
  pub sent : List ℕ
  pub is_read : IsRead streams.left streams.left_now (messages_of came) rest
  pub bounded : length rest ≤ 8192
  pub history : done.history ≡ (session_from first came).lines
  pub refused : done.refused ≡ (session_from first came).refused
  pub framed : All IsReply (session_from first came).replies
  pub written : Appends streams.held streams.held_now sent
  pub are_sent : AreSent broken sent (session_from first came).replies
  pub ending : (done.fault ≡ Some Unstored) ⊎ EndsBy done.fault broken (messages_of came) rest streams.left_now

-- the same of a session that heard these lines, goes on behind these others, and knows messages that are sent again
abbrev pub IsServedBehind : Rules → List Line → List Line → Streams → Bool → Done → Type 0
IsServedBehind rules heard base streams broken done =
    IsServedFrom (session_behind rules heard base true) streams broken done

-- the same of a session behind no lines, to which each message is new
abbrev pub IsServed : Rules → Streams → Bool → Done → Type 0
IsServed rules streams broken done = IsServedFrom (opening_session rules) streams broken done

-- Whatever the writer holds behind what it held are replies to messages at the front of these, all of them or a
-- beginning, and the lines of the session that began so and goes on by those messages are stored, unless nothing was
-- written.
pub record IsAheadFrom (first : Session) (came : List Came) (streams : Streams) (stored : List Line) : Type 0 where
  pub front : List Came
  pub back : List Came
  pub sent : List ℕ
  pub owed : List ℕ
  pub is : front ++ back ≡ came
  pub written : Appends streams.held streams.held_now sent
  pub parts : sent ++ owed ≡ concat (session_from first front).replies
  pub covered : (sent ≡ []) ⊎ IsPrefix (session_from first front).lines stored

-- A session that began so was served, and of the very messages that gave its history, each with what was refused, the
-- writer holds replies behind stored lines.
pub record IsServedAheadFrom (first : Session) (streams : Streams) (broken : Bool) (done : Done) (stored : List Line)
    : Type 0 where
  pub served : IsServedFrom first streams broken done
  pub ahead : IsAheadFrom first served.came streams stored

-- the same of a session that heard these lines, goes on behind these others, and knows messages that are sent again
abbrev pub IsServedAheadBehind : Rules → List Line → List Line → Streams → Bool → Done → List Line → Type 0
IsServedAheadBehind rules heard base streams broken done stored =
    IsServedAheadFrom (session_behind rules heard base true) streams broken done stored

-- the same of a session behind no lines, to which each message is new
abbrev pub IsServedAhead : Rules → Streams → Bool → Done → List Line → Type 0
IsServedAhead rules streams broken done stored = IsServedAheadFrom (opening_session rules) streams broken done stored
