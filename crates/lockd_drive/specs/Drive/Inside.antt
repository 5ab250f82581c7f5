-- The results of the actions of a client. No contract of a public function cites these definitions.
use Rattle.std.specs.Prelude.{◌≡◌, ◌⊎◌, ℕ, ◌+◌, ◌<◌, ◌≤◌, List, [], ◌∷◌, ◌++◌, length, take, drop, All, Option}
use Rattle.std.specs.Prelude.{IfSome, IsOk, Result, Ok, Err, ⊤}
use Rattle.std.specs.List.{concat, flat_map}
use Rattle.std.specs.Io.KnownBytes.{Appends, Consumes, IsAtEnd, Keeps}
use Rattle.fl_wire.specs.Layout.{len_of}
use Rattle.lockd_drive.specs.Drive.{Said, Sends, Waits, awaited_by, text_says, IsFramed, ArePrinted, IsDriven}
use Rattle.lockd_drive.specs.Drive.{IsCutShort}
use Rattle.lockd_faults.specs.Faults.{IsBegun}
use Rattle.lockd_faults.specs.HexLines.{hex_lines}
use Rattle.lockd_drive.specs.declared.actions.Action.{Action}
use Rattle.lockd_drive.specs.declared.actions.Action.TheVariants as action
use Rattle.lockd_faults.specs.declared.fault.CommandFault.{CommandFault}
use Rattle.lockd_faults.specs.declared.fault.CommandFault.TheVariants as command

-- an action of the code, as what a line says
abbrev pub said_by : Action → Said
said_by (action.Send bytes) = Sends bytes.items
said_by (action.Receive n) = Waits n

-- what a fault says of a text of lines
abbrev pub TextFaults : List ℕ → CommandFault → Type 0
TextFaults text (command.BadLine n) = text_says text ≡ Err n
TextFaults text command.NoMemory = ⊤
TextFaults text command.NoReader = ⊥
TextFaults text command.Read = ⊥
TextFaults text command.Write = ⊥
TextFaults text command.Cut = ⊥
TextFaults text (command.BadLength n) = ⊥
TextFaults text command.Listen = ⊥
TextFaults text command.Connect = ⊥
TextFaults text command.BadReply = ⊥
TextFaults text command.Trace = ⊥
TextFaults text command.TraceFailed = ⊥
TextFaults text (command.Differs n) = ⊥

-- the bytes that a line sends
abbrev pub sent : Said → List ℕ
sent (Sends bytes) = bytes
sent (Waits n) = []

-- the bytes that these lines send
abbrev pub sent_by : List Said → List ℕ
sent_by lines = flat_map sent lines

-- a beginning of a reply that isn't all of it, or nothing
abbrev pub IsPart : List ℕ → Type 0
IsPart bytes = 4 ≤ length bytes → (16 ≤ len_of bytes) × (len_of bytes ≤ 8192) × (length bytes < len_of bytes)

-- why no more replies are read, by the bytes behind the last one that is printed and what is left of the stream
abbrev pub IsWhy : CommandFault → List ℕ → Option (List ℕ) → Type 0
IsWhy command.Cut behind left = IsPart behind × IsAtEnd left
IsWhy command.BadReply behind left = (length behind ≡ 4) × (16 ≤ len_of behind → 8192 < len_of behind)
IsWhy command.NoMemory behind left = ⊤
IsWhy command.NoReader behind left = ⊥
IsWhy command.Read behind left = ⊤
IsWhy command.Write behind left = ⊥
IsWhy command.Listen behind left = ⊥
IsWhy command.Connect behind left = ⊥
IsWhy command.Trace behind left = ⊥
IsWhy command.TraceFailed behind left = ⊥
IsWhy (command.Differs n) behind left = ⊥
IsWhy (command.BadLine n) behind left = ⊥
IsWhy (command.BadLength n) behind left = ⊥

-- a room was filled from one place to another before its last, since the stream ended or couldn't be read
pub record IsShortBy (fault : CommandFault) (first last : ℕ) (room : List ℕ) (left left_now : Option (List ℕ))
    : Type 0 where
  pub at : ℕ
  pub from : first ≤ at
  pub short : at < last
  pub read : Consumes left left_now (drop first (take at room))
  pub why : (fault ≡ command.Read) ⊎ ((fault ≡ command.Cut) × IsAtEnd left_now)

-- no whole reply came, and this is why
pub record IsStopped (fault : CommandFault) (left left_now : Option (List ℕ))
    : Type 0 where
  pub behind : List ℕ
  pub read : Consumes left left_now behind
  pub why : IsWhy fault behind left_now

-- n replies and the bytes behind them were read, and the replies were printed
pub record HasReceived (n : ℕ) (behind : List ℕ) (left left_now old new : Option (List ℕ)) : Type 0 where
  pub replies : List (List ℕ)
  pub framed : All IsFramed replies
  pub number : length replies ≡ n
  pub read : Consumes left left_now (concat replies ++ behind)
  pub written : Appends old new (hex_lines replies)

-- fewer than n replies were, and this is why
pub record HasFallenShort (n : ℕ) (fault : CommandFault) (left left_now old new : Option (List ℕ)) : Type 0 where
  pub got : ℕ
  pub behind : List ℕ
  pub fewer : got < n
  pub received : HasReceived got behind left left_now old new
  pub why : IsWhy fault behind left_now

-- at most n replies and the bytes behind them were read, and a beginning of the lines of these replies was printed
pub record HasBegun (n : ℕ) (left left_now old new : Option (List ℕ)) : Type 0 where
  pub replies : List (List ℕ)
  pub behind : List ℕ
  pub framed : All IsFramed replies
  pub most : length replies ≤ n
  pub read : Consumes left left_now (concat replies ++ behind)
  pub begun : IsBegun (hex_lines replies) old new

-- all was done that these lines say
pub record HasDone (lines : List Said) (left left_now held held_now old new : Option (List ℕ)) : Type 0 where
  pub sent_all : Appends held held_now (sent_by lines)
  pub received : HasReceived (awaited_by lines) [] left left_now old new

-- these lines, of which all before the one that waits for the replies that didn't come were done
pub record HasStopped (lines : List Said) (fault : CommandFault) (left left_now held held_now old new : Option (List ℕ))
    : Type 0 where
  pub done : List Said
  pub count : ℕ
  pub later : List Said
  pub got : ℕ
  pub behind : List ℕ
  pub parts : lines ≡ done ++ Waits count ∷ later
  pub fewer : got < count
  pub sent_some : Appends held held_now (sent_by done)
  pub received : HasReceived (awaited_by done + got) behind left left_now old new
  pub why : IsWhy fault behind left_now

-- some replies were printed
pub record HasPrinted (old new : Option (List ℕ)) : Type 0 where
  pub n : ℕ
  pub printed : ArePrinted n old new

-- what was done, by how the command ended
abbrev pub Did : Option (List ℕ) → Option (List ℕ) → Option (List ℕ) → Result Unit CommandFault → Type 0
Did left old new (Ok done) = IsDriven left old new
Did left old new (Err command.Cut) = IsCutShort left old new
Did left old new (Err command.BadReply) = IsCutShort left old new
Did left old new (Err (command.BadLine n)) = IfSome left (λ text. text_says text ≡ Err n) × Keeps old new
Did left old new (Err command.Listen) = ⊥
Did left old new (Err command.Trace) = ⊥
Did left old new (Err command.TraceFailed) = ⊥
Did left old new (Err (command.Differs n)) = ⊥
Did left old new (Err command.Connect) = IfSome left (λ text. IsOk (text_says text)) × Keeps old new
Did left old new (Err command.NoMemory) = HasPrinted old new
Did left old new (Err command.NoReader) = ⊥
Did left old new (Err command.Read) = HasPrinted old new
Did left old new (Err command.Write) = IfSome left (λ text. IsOk (text_says text))
Did left old new (Err (command.BadLength n)) = ⊥
