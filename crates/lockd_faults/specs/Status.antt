-- How a command ends, and its exit status.
use Rattle.std.specs.Prelude.{ℕ}
use Rattle.lockd_faults.specs.declared.fault.CommandFault.{CommandFault}
use Rattle.lockd_faults.specs.declared.status.Status.{Status}
use Rattle.lockd_faults.specs.declared.status.Status.TheVariants.{Good, Different, Faulted}

-- 0 is good, 1 a trace that differs, and 2 a fault
abbrev pub exit_code_of : Status → ℕ
exit_code_of Good = 0
exit_code_of Different = 1
exit_code_of (Faulted fault) = 2

-- the command gave up, by a fault of which this holds
abbrev pub GivesUpBy : (CommandFault → Type 0) → Status → Type 0
GivesUpBy holds Good = ⊥
GivesUpBy holds Different = ⊥
GivesUpBy holds (Faulted fault) = holds fault
