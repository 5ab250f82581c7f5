-- The faults of what a command calls, as the command tells them.
use Rattle.fl_transport.specs.declared.fault.Fault.{Fault as SessionFault}
use Rattle.fl_transport.specs.declared.fault.Fault.TheVariants as session
use Rattle.lockd_faults.specs.declared.fault.CommandFault.{CommandFault}
use Rattle.lockd_faults.specs.declared.fault.CommandFault.TheVariants as command

-- a session's fault as a command tells it
abbrev pub fault_of : SessionFault → CommandFault
fault_of session.Cut = command.Cut
fault_of (session.BadLength n) = command.BadLength n
fault_of session.Read = command.Read
fault_of session.Write = command.Write
fault_of session.NoMemory = command.NoMemory
fault_of session.NoReader = command.NoReader
fault_of session.Unstored = command.TraceFailed
