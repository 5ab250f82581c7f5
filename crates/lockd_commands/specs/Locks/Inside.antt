-- What is said of a trace.
use Rattle.std.specs.Prelude.{ℕ, List, Option, string_bytes}
use Rattle.fl_waiting.specs.declared.rules.Rules.{Rules}
use Rattle.lockd_commands.specs.Locks.{AreListed, AreDifferent}
use Rattle.lockd_commands.specs.declared.locks.Answer.{Answer}
use Rattle.lockd_commands.specs.declared.locks.Answer.TheVariants.{Listed, Differs}
use Rattle.lockd_commands.specs.declared.locks.LocksOptions.{LocksOptions}

-- the list of its locks, or where it breaks the rules
abbrev pub IsAnswer : Rules → LocksOptions → Option (List ℕ) → Answer → Type 0
IsAnswer rules options left (Listed text) = AreListed rules options left (string_bytes text)
IsAnswer rules options left (Differs text) = AreDifferent rules options left (string_bytes text)
