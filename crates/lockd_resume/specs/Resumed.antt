-- What a session did that went on behind the lines of a trace, and what the server leaves of it.
use Rattle.std.specs.Prelude.{◌≡◌, ◌≢◌, ◌++◌, ℕ, true, List, Option, Some, IsTrue}
use mathlib.Core.List.{IsPrefix}
use Rattle.fl_desk.specs.Legal.{IsLegal}
use Rattle.fl_desk.specs.Pieces.{IsPiece}
use Rattle.fl_history.specs.declared.history.Line.{Line}
use Rattle.fl_judge.specs.Present.{told_lines}
use Rattle.fl_session.specs.Served.{IsAheadFrom, IsServedBehind}
use Rattle.fl_session.specs.Session.{session_behind}
use Rattle.fl_stream.specs.Streams.{HoldsText, IsBegun, Wrote}
use Rattle.fl_trace.specs.Text.{text_of}
use Rattle.fl_transport.specs.Streams.{Streams}
use Rattle.fl_transport.specs.declared.fault.Fault.TheVariants.{NoMemory}
use Rattle.fl_waiting.specs.declared.rules.Rules.{Rules}
use Rattle.lockd_faults.specs.Ending.{Ending, EndsBehind}
use Rattle.fl_stream.specs.Pieced.{behind_head}
use Rattle.lockd_resume.specs.declared.behind.ResumedRun.{ResumedRun}
use Rattle.lockd_resume.specs.declared.point.ResumePoint.{ResumePoint}

-- the lines behind which a session goes on from a point: those that it has, and the replies that they lack
abbrev pub lines_at : ResumePoint → List Line
lines_at point = point.resumed.past.items ++ told_lines point.resumed.missing

-- A session heard some lines and was served behind these others under these rules, where a message may be sent again,
-- and all lines together are legal. They stand in pieces: those of a piece follow its head, and those of the head tell
-- what is there after all lines before. The file is that of the last piece. It has a prefix of its text, which may end within
-- a line, and all of it if it is said to be whole. It has all text of the stored lines of the piece, which are the first
-- of its lines. Whatever the client got are replies to the first of the very messages that came, whose lines are stored.
-- `contents` is what a file says that it holds.
pub record IsResumed {T : Type 0} (rules : Rules) (heard base : List Line) (contents : T → Option (List ℕ))
    (streams : Streams) (ended : ResumedRun T) : Type 0 where
  pub lines : List Line
  pub stored : List Line
  pub before : List Line
  pub head : List Line
  pub piece : List Line
  pub piece_stored : List Line
  pub served : IsServedBehind rules heard base streams ended.broken
      (record { history = lines; fault = ended.fault; refused = ended.refused })
  pub legal : IsLegal rules lines
  pub is_piece : IsPiece rules lines piece
  pub all : lines ≡ behind_head before head piece
  pub all_stored : stored ≡ behind_head before head piece_stored
  pub begun : IsBegun contents (contents ended.file) piece
  pub whole : IsTrue ended.whole → Wrote contents (contents ended.file) (text_of piece)
  pub there : HoldsText contents (contents ended.file) piece_stored
  pub front : IsPrefix piece_stored piece
  pub ahead : IsAheadFrom (session_behind rules heard base true) served.came streams stored

-- A session heard some lines and went on behind these others, and this is what the server leaves of it. All speaks of
-- one and the same session: what was read and written, its lines, what the file has of them, its fault and what is told.
-- It had memory.
pub record IsOverBehind {T : Type 0} (rules : Rules) (heard base : List Line)
    (contents : T → Option (List ℕ)) (streams : Streams) (it : Ending) (ended : ResumedRun T) : Type 0 where
  pub resumed : IsResumed rules heard base contents streams ended
  pub able : ended.fault ≢ Some NoMemory
  pub ends : EndsBehind ended.fault ended.whole it
