-- What is said of a trace.
use Rattle.std.specs.Prelude.{ℕ, List, Option, string_bytes}
use Rattle.fl_waiting.specs.declared.rules.Rules.{Rules}
use Rattle.lockd_commands.specs.State.{IsStateOf, IsIllegal}
use Rattle.lockd_commands.specs.declared.state.Answer.{Answer}
use Rattle.lockd_commands.specs.declared.state.Answer.TheVariants.{Head, Differs}

-- the head behind it, or where it breaks the rules
abbrev pub IsAnswer : Rules → Option (List ℕ) → Answer → Type 0
IsAnswer rules left (Head text) = IsStateOf rules left text.items
IsAnswer rules left (Differs text) = IsIllegal rules left (string_bytes text)
