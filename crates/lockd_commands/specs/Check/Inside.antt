-- What is told of an audit.
use Rattle.std.specs.Prelude.{Bool, true, Option, Some, None}
use Rattle.fl_audit.specs.declared.finding.AuditFault.{AuditFault}
use Rattle.fl_audit.specs.declared.finding.AuditFault.TheVariants as audits
use Rattle.fl_audit.specs.declared.finding.Finding.{Finding}
use Rattle.fl_audit.specs.declared.finding.Finding.TheVariants.{Legal}
use Rattle.lockd_faults.specs.declared.fault.CommandFault.{CommandFault}
use Rattle.lockd_faults.specs.declared.fault.CommandFault.TheVariants as command

-- what is told of it: if that is asked and the history is legal, whether it is quiet
abbrev pub quiet_told : Bool → Finding → Bool → Option Bool
quiet_told true Legal quiet = Some quiet
quiet_told asked finding quiet = None

-- a fault of an audit as a command tells it
abbrev pub audit_fault : AuditFault → CommandFault
audit_fault (audits.BadLine n) = command.BadLine n
audit_fault audits.NoMemory = command.NoMemory
audit_fault audits.Read = command.Read
