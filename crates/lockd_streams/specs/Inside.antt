-- The socket that a server makes, and its reads and writes. No contract of a public function cites these definitions.
use Rattle.std.specs.Prelude.{◌≡◌, ℕ, true, Option, None, Some, Result, IsErrAnd}
use Rattle.std.specs.IoError.{error_kind}
use Rattle.std.specs.declared.io.Error.{Error}
use Rattle.std.specs.declared.io.ErrorKind.TheVariants.{WouldBlock}
use Rattle.lockd_streams.specs.declared.socket.FoundFile.{FoundFile}

-- both are sockets, and the same file: the same inode of the same device
abbrev pub IsSameFile : FoundFile → FoundFile → Type 0
IsSameFile made found =
    (made.is_socket ≡ true) × (found.is_socket ≡ true) × (made.device ≡ found.device) × (made.inode ≡ found.inode)

-- what is found is the socket that was made; it isn't, if either isn't known
abbrev pub IsSameSocket : Option FoundFile → Option FoundFile → Type 0
IsSameSocket (Some made) (Some found) = IsSameFile made found
IsSameSocket (Some made) None = ⊥
IsSameSocket None found = ⊥

-- a read or a write failed only because it would have to wait
abbrev pub WouldWait : Result ℕ Error → Type 0
WouldWait done = IsErrAnd done (λ e. error_kind e ≡ WouldBlock)
