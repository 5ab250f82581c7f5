-- Which faults each command can end with.
use Rattle.std.specs.Prelude.{⊤}
use Rattle.lockd_faults.specs.declared.fault.CommandFault.{CommandFault}
use Rattle.lockd_faults.specs.declared.fault.CommandFault.TheVariants.{BadLine, NoMemory, Read, Write, Cut, BadLength}

-- a fault of a command from lines of a trace to text
abbrev pub IsOfText : CommandFault → Type 0
IsOfText (BadLine n) = ⊤
IsOfText NoMemory = ⊤
IsOfText Read = ⊤
IsOfText Write = ⊤
IsOfText fault = ⊥

-- a fault of a session from bytes to bytes
abbrev pub IsOfBytes : CommandFault → Type 0
IsOfBytes (BadLine n) = ⊤
IsOfBytes NoMemory = ⊤
IsOfBytes Read = ⊤
IsOfBytes Write = ⊤
IsOfBytes Cut = ⊤
IsOfBytes (BadLength n) = ⊤
IsOfBytes fault = ⊥
