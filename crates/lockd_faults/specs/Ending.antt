-- How a server ends: what it tells, and its status.
use Rattle.std.specs.Prelude.{◌≡◌, ℕ, Bool, true, false, List, Option, None, Some, option_map}
use Rattle.std.specs.Io.KnownBytes.{Keeps}
use Rattle.fl_transport.specs.declared.fault.Fault.{Fault as SessionFault}
use Rattle.lockd_faults.specs.Causes.{fault_of}
use Rattle.lockd_faults.specs.Faults.{AreBothTold, IsTold}
use Rattle.lockd_faults.specs.declared.fault.CommandFault.{CommandFault}
use Rattle.lockd_faults.specs.declared.fault.CommandFault.TheVariants.{TraceFailed}
use Rattle.lockd_faults.specs.declared.status.Status.{Status}
use Rattle.lockd_faults.specs.declared.status.Status.TheVariants.{Faulted, Good}

-- How a server ended: its status, and what its error output held before and holds then.
pub record Ending : Type 0 where
  pub status : Status
  pub told : Option (List ℕ)
  pub told_now : Option (List ℕ)

-- a session's fault, as the server tells it
abbrev pub told_of : Option SessionFault → Option CommandFault
told_of fault = option_map fault_of fault

-- This fault is told, as one line, and decides the status. With none the status is good and nothing is told.
abbrev pub Ends : Option CommandFault → Ending → Type 0
Ends None it = (it.status ≡ Good) × Keeps it.told it.told_now
Ends (Some fault) it = (it.status ≡ Faulted fault) × IsTold fault it.told it.told_now

-- It is told that the trace failed, after the session's fault, if it had another. The first that is told decides the
-- status.
abbrev pub EndsUntraced : Option CommandFault → Ending → Type 0
EndsUntraced None it = Ends (Some TraceFailed) it
EndsUntraced (Some TraceFailed) it = Ends (Some TraceFailed) it
EndsUntraced (Some fault) it = (it.status ≡ Faulted fault) × AreBothTold fault TraceFailed it.told it.told_now

-- The session's fault is told. If the file lacks lines or is gone, it is told behind it that the trace failed.
abbrev pub EndsBehind : Option SessionFault → Bool → Ending → Type 0
EndsBehind fault true it = Ends (told_of fault) it
EndsBehind fault false it = EndsUntraced (told_of fault) it
