-- A server that goes on behind the lines of a trace's file.
use Rattle.std.specs.Prelude.{ℕ, Bool, List, Option, Some, ⊤}
use Rattle.fl_desk.specs.Legal.{IsLegal}
use Rattle.fl_judge.specs.Present.{HasPresent}
use Rattle.fl_judge.specs.Verdicts.{DiffersAt}
use Rattle.fl_history.specs.declared.history.Line.{Line}
use Rattle.fl_audit.specs.Audit.{whole_lines}
use Rattle.fl_audit.specs.First.{AreWholeLines}
use Rattle.fl_session.specs.Served.{IsServedBehind}
use Rattle.fl_session.specs.declared.done.Done.{Done}
use Rattle.fl_trace.specs.Text.{BreaksAt, LineFits}
use Rattle.fl_transport.specs.Streams.{Streams}
use Rattle.fl_waiting.specs.declared.rules.Rules.{Rules}
use Rattle.lockd_faults.specs.Ending.{Ending, Ends, EndsBehind}
use Rattle.lockd_faults.specs.declared.fault.CommandFault.{CommandFault}
use Rattle.lockd_faults.specs.declared.fault.CommandFault.TheVariants as command
use Rattle.lockd_resume.specs.Heard.{LacksBefore, Text}

-- No legal history begins with the whole lines of a text, or they end inside a head, and the line of this number is the
-- first that breaks the rules.
pub record DiffersIn (rules : Rules) (text : List ℕ) (n : ℕ) : Type 0 where
  pub lines : List Line
  pub bytes : ℕ
  pub are : AreWholeLines text lines bytes
  pub differs : DiffersAt rules lines n
  pub none : HasPresent rules lines → ⊥

-- the whole lines of a text, and those of the pieces before it that were heard, aren't enough to know messages that are
-- sent again
pub record LacksLines (rules : Rules) (left : Option (List Text)) (text : List ℕ) : Type 0 where
  pub lines : List Line
  pub bytes : ℕ
  pub are : AreWholeLines text lines bytes
  pub before : LacksBefore rules left lines

-- What a fault says of the text of a trace's file, from which no server goes on. `left` is what stands before it.
abbrev pub FileSays : Rules → Option (List Text) → List ℕ → CommandFault → Type 0
FileSays rules left text (command.BadLine n) = BreaksAt LineFits (whole_lines text) n
FileSays rules left text (command.Differs n) = DiffersIn rules text n
FileSays rules left text command.Trace = LacksLines rules left text
FileSays rules left text command.NoMemory = ⊤
FileSays rules left text command.Read = ⊤
FileSays rules left text fault = ⊥

-- a fault for which a server doesn't go on behind a trace, and serves nobody
abbrev pub IsBefore : CommandFault → Type 0
IsBefore (command.BadLine n) = ⊤
IsBefore (command.Differs n) = ⊤
IsBefore command.NoMemory = ⊤
IsBefore command.Read = ⊤
IsBefore command.Trace = ⊤
IsBefore command.Listen = ⊤
IsBefore fault = ⊥

-- a fault is told for which a server serves nobody; that nobody was served no clause sees
pub record ServesNobodyBehind (it : Ending) : Type 0 where
  pub fault : CommandFault
  pub before : IsBefore fault
  pub ends : Ends (Some fault) it

-- A session heard some lines and went on behind others, all from these on are legal, and this is what the server tells
-- of it.
pub record ServesBehind (rules : Rules) (it : Ending) : Type 0 where
  pub heard : List Line
  pub base : List Line
  pub streams : Streams
  pub broken : Bool
  pub whole : Bool
  pub done : Done
  pub served : IsServedBehind rules heard base streams broken done
  pub legal : IsLegal rules done.history
  pub ends : EndsBehind done.fault whole it
