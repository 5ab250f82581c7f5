-- What a command writes of a fault.
use Rattle.std.specs.Prelude.{◌≡◌, ℕ, List, [], ◌∷◌, ◌++◌, codes, Option}
use Rattle.std.specs.Fmt.{decimal}
use Rattle.std.specs.Io.KnownBytes.{Appends}
use Rattle.lockd_faults.specs.declared.fault.CommandFault.{CommandFault}
use Rattle.lockd_faults.specs.declared.fault.CommandFault.TheVariants.{BadLine, NoMemory, NoReader, Listen, Read, Write}
use Rattle.lockd_faults.specs.declared.fault.CommandFault.TheVariants.{Cut, BadLength, Connect, BadReply, Trace}
use Rattle.lockd_faults.specs.declared.fault.CommandFault.TheVariants.{TraceFailed, Differs}

-- the text of a fault
abbrev pub fault_text : CommandFault → List ℕ
fault_text (BadLine n) = codes "bad line " ++ decimal n
fault_text NoMemory = codes "no memory"
fault_text NoReader = codes "no reader"
fault_text Listen = codes "cannot listen"
fault_text Read = codes "read failed"
fault_text Write = codes "write failed"
fault_text Cut = codes "cut"
fault_text (BadLength n) = codes "bad length " ++ decimal n
fault_text Connect = codes "cannot connect"
fault_text BadReply = codes "bad reply"
fault_text Trace = codes "cannot trace"
fault_text TraceFailed = codes "trace failed"
fault_text (Differs n) = codes "differs " ++ decimal n

-- these bytes were written, or after a failed write a prefix of them
pub record IsBegun (bytes : List ℕ) (old new : Option (List ℕ)) : Type 0 where
  pub part : List ℕ
  pub rest : List ℕ
  pub parts : bytes ≡ part ++ rest
  pub written : Appends old new part

-- a fault was reported: its text as one line, or after a failed write a prefix of it
abbrev pub IsTold : CommandFault → Option (List ℕ) → Option (List ℕ) → Type 0
IsTold fault old new = IsBegun (fault_text fault ++ 10 ∷ []) old new

-- two faults were reported, one after the other
pub record AreBothTold (first second : CommandFault) (old new : Option (List ℕ)) : Type 0 where
  pub between : Option (List ℕ)
  pub before : IsTold first old between
  pub behind : IsTold second between new
