-- Scripts: ask lines, taken at a desk in their order.
use Rattle.std.specs.Prelude.{◌≡◌, ℕ, true, List, filter, Option, IfSome}
use Rattle.std.specs.Io.KnownBytes.{Appends}
use Rattle.fl_desk.specs.Legal.{IsLegal, is_asked}
use Rattle.fl_stream.specs.Streams.{WroteSome}
use Rattle.fl_trace.specs.Text.{text_of, LineFits, Fits, BreaksAt}
use Rattle.fl_history.specs.declared.history.Line.{Line}
use Rattle.fl_history.specs.declared.history.Line.TheVariants.{Asked}
use Rattle.fl_waiting.specs.declared.rules.Rules.{Rules}
use Rattle.lockd_faults.specs.declared.fault.CommandFault.{CommandFault}
use Rattle.lockd_commands.specs.declared.script.AskLine.{AskLine}
use Rattle.lockd_faults.specs.declared.fault.CommandFault.TheVariants.{BadLine, NoMemory, NoReader, Listen, Read, Write}
use Rattle.lockd_faults.specs.declared.fault.CommandFault.TheVariants.{Cut, BadLength, Connect, BadReply, Trace}
use Rattle.lockd_faults.specs.declared.fault.CommandFault.TheVariants.{TraceFailed, Differs}

-- an ask line that can be read back
abbrev pub IsAskLine : Line → Type 0
IsAskLine line = LineFits line × (is_asked line ≡ true)

-- the line of a history in which a worker asks
abbrev pub line_of : AskLine → Line
line_of ask = Asked ask.worker ask.order

-- The trace of a script is the text of a history that is legal under these rules, and whose ask lines are the script.
pub record IsTraceOf (rules : Rules) (script trace : List ℕ) : Type 0 where
  pub lines : List Line
  pub legal : IsLegal rules lines
  pub asked : script ≡ text_of (filter is_asked lines)
  pub fits : Fits (filter is_asked lines)
  pub printed : trace ≡ text_of lines

-- what a fault says of a script
abbrev pub FaultSays : List ℕ → CommandFault → Type 0
FaultSays script (BadLine n) = BreaksAt IsAskLine script n
FaultSays script NoMemory = Unit {0}
FaultSays script NoReader = ⊥
FaultSays script Listen = ⊥
FaultSays script Read = ⊥
FaultSays script Write = ⊥
FaultSays script Cut = ⊥
FaultSays script (BadLength n) = ⊥
FaultSays script Connect = ⊥
FaultSays script BadReply = ⊥
FaultSays script Trace = ⊥
FaultSays script TraceFailed = ⊥
FaultSays script (Differs n) = ⊥

-- a script was read, and its trace under these rules was written
pub record IsAnswered (rules : Rules) (left old new : Option (List ℕ)) : Type 0 where
  pub script : List ℕ
  pub trace : List ℕ
  pub read : IfSome left (λ bytes. bytes ≡ script)
  pub answered : IsTraceOf rules script trace
  pub written : Appends old new trace

-- a script was read, and a beginning of its trace under these rules was written, which may end within a line
pub record IsAnsweredInPart (rules : Rules) (left old new : Option (List ℕ)) : Type 0 where
  pub script : List ℕ
  pub trace : List ℕ
  pub read : IfSome left (λ bytes. bytes ≡ script)
  pub answered : IsTraceOf rules script trace
  pub begun : WroteSome trace old new
