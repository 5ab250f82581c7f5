-- The results of the steps of a session from bytes to bytes. No contract of a public function cites these definitions.
use Rattle.std.specs.Prelude.{◌≡◌, ℕ, List, All, Option, Some, None, IfSome, Result, Ok, Err, ⊤}
use Rattle.std.specs.List.{concat}
use Rattle.std.specs.Io.KnownBytes.{Keeps}
use Rattle.fl_wire.specs.Spell.{IsReply}
use Rattle.fl_waiting.specs.declared.rules.Rules.{Rules}
use Rattle.lockd_commands.specs.Bytes.{IsPrinted, IsPrintedInPart}
use Rattle.lockd_commands.specs.Hex.{hex_stream}
use Rattle.lockd_faults.specs.declared.fault.CommandFault.{CommandFault}
use Rattle.lockd_faults.specs.declared.fault.CommandFault.TheVariants as command
use Rattle.fl_transport.specs.declared.fault.Fault.{Fault as SessionFault}
use Rattle.fl_transport.specs.declared.fault.Fault.TheVariants as session

-- what a fault says of a text of hex lines
abbrev pub TextSays : List ℕ → CommandFault → Type 0
TextSays text (command.BadLine n) = hex_stream text ≡ Err n
TextSays text command.NoMemory = ⊤
TextSays text command.NoReader = ⊥
TextSays text command.Listen = ⊥
TextSays text command.Read = ⊥
TextSays text command.Write = ⊥
TextSays text command.Cut = ⊥
TextSays text (command.BadLength n) = ⊥
TextSays text command.Connect = ⊥
TextSays text command.BadReply = ⊥
TextSays text command.Trace = ⊥
TextSays text command.TraceFailed = ⊥
TextSays text (command.Differs n) = ⊥

-- these bytes are whole replies, one after another
pub record AreReplies (bytes : List ℕ) : Type 0 where
  pub replies : List (List ℕ)
  pub framed : All IsReply replies
  pub is : bytes ≡ concat replies

-- What was done, by how the command ended: only after a session is anything printed.
abbrev pub Did : Rules → Option (List ℕ) → Option (List ℕ) → Option (List ℕ) → Result Unit CommandFault → Type 0
Did rules left old new (Ok done) = IsPrinted rules left old new None
Did rules left old new (Err command.Cut) = IsPrinted rules left old new (Some session.Cut)
Did rules left old new (Err (command.BadLength n)) = IsPrinted rules left old new (Some (session.BadLength n))
Did rules left old new (Err (command.BadLine n)) = IfSome left (λ text. hex_stream text ≡ Err n) × Keeps old new
Did rules left old new (Err command.NoMemory) = Keeps old new
Did rules left old new (Err command.NoReader) = ⊥
Did rules left old new (Err command.Listen) = ⊥
Did rules left old new (Err command.Read) = Keeps old new
Did rules left old new (Err command.Write) = IsPrintedInPart rules left old new
Did rules left old new (Err command.Connect) = ⊥
Did rules left old new (Err command.BadReply) = ⊥
Did rules left old new (Err command.Trace) = ⊥
Did rules left old new (Err command.TraceFailed) = ⊥
Did rules left old new (Err (command.Differs n)) = ⊥

-- a fault of a stream, and not of what reads or writes it
abbrev pub IsOfStream : SessionFault → Type 0
IsOfStream session.Cut = ⊤
IsOfStream (session.BadLength n) = ⊤
IsOfStream session.Read = ⊥
IsOfStream session.Write = ⊥
IsOfStream session.NoMemory = ⊥
IsOfStream session.NoReader = ⊥
IsOfStream session.Unstored = ⊥
