-- A server that served nobody.
use Rattle.std.specs.Prelude.{◌≡◌, ◌⊎◌, ℕ, List, Option}
use Rattle.std.specs.Io.KnownBytes.{Keeps}
use Rattle.lockd_faults.specs.Faults.{IsTold}
use Rattle.lockd_faults.specs.declared.fault.CommandFault.{CommandFault}
use Rattle.lockd_faults.specs.declared.fault.CommandFault.TheVariants.{Listen, NoMemory}
use Rattle.lockd_faults.specs.declared.status.Status.{Status}
use Rattle.lockd_faults.specs.declared.status.Status.TheVariants.{Faulted}
use Rattle.lockd_faults.specs.Ending.{Ending}

-- nobody was served: no connection came, or there was no memory to serve one
abbrev pub ServesNobody : Status → Type 0
ServesNobody status = (status ≡ Faulted Listen) ⊎ (status ≡ Faulted NoMemory)

-- nothing is printed, and this fault is told
abbrev pub LeavesNothing : CommandFault → Option (List ℕ) → Option (List ℕ) → Ending → Type 0
LeavesNothing fault out out_now it = Keeps out out_now × IsTold fault it.told it.told_now
