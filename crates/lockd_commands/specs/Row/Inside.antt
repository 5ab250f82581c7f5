-- Why pieces aren't judged.
use Rattle.std.specs.Prelude.{◌≡◌, ◌≢◌, ℕ, List, ◌++◌, codes, string_bytes, Option, ⊤}
use Rattle.std.specs.Io.KnownBytes.{Keeps}
use Rattle.fl_audit.specs.Rows.{IsBadRow, IsSoOfTexts}
use Rattle.fl_audit.specs.declared.finding.AuditFault.TheVariants as audits
use Rattle.fl_audit.specs.declared.row.RowFault.{RowFault}
use Rattle.fl_waiting.specs.declared.rules.Rules.{Rules}
use Rattle.lockd_commands.specs.Row.{place_text, IsRowJudgedInPart}
use Rattle.lockd_commands.specs.declared.row.BadLine.{BadLine}
use Rattle.lockd_commands.specs.declared.row.Failed.{Failed}
use Rattle.lockd_commands.specs.declared.row.Failed.TheVariants as failed
use Rattle.lockd_faults.specs.declared.fault.CommandFault.{CommandFault}
use Rattle.lockd_faults.specs.declared.fault.CommandFault.TheVariants as command

-- a fault beside a bad line
abbrev pub IsOther : CommandFault → Type 0
IsOther command.NoMemory = ⊤
IsOther command.Read = ⊤
IsOther command.Write = ⊤
IsOther fault = ⊥

-- a bad line of this piece, with the line that says so
pub record IsBadLine (piece line : ℕ) (bad : BadLine) : Type 0 where
  pub line_is : bad.line ≡ line
  pub said : string_bytes bad.text ≡ codes "bad line " ++ place_text (record { piece = piece; line = line })

-- that bad line; or memory ran out for the line that says so
abbrev pub IsBadOr : ℕ → ℕ → Failed → Type 0
IsBadOr piece line (failed.BadLine bad) = IsBadLine piece line bad
IsBadOr piece line (failed.Other fault) = fault ≡ command.NoMemory

-- why an audit gave up, as the command tells it; memory may run out for that
abbrev pub IsFailureOf : RowFault → Failed → Type 0
IsFailureOf fault (failed.BadLine bad) = (fault.fault ≡ audits.BadLine bad.line) × IsBadLine fault.piece bad.line bad
IsFailureOf fault (failed.Other other) = (other ≢ command.Write) × IsOther other

-- Why pieces aren't judged. Only if the output can't be written something may be written, and they are judged then.
abbrev pub IsFailure : List Rules → List (Option (List ℕ)) → Option (List ℕ) → Option (List ℕ) → Failed → Type 0
IsFailure rules lefts old new (failed.BadLine bad) =
    ((piece : ℕ) × IsSoOfTexts lefts (λ texts. IsBadRow rules texts piece bad.line) × IsBadLine piece bad.line bad) × Keeps old new
IsFailure rules lefts old new (failed.Other fault) =
    IsOther fault × (fault ≢ command.Write → Keeps old new) × (fault ≡ command.Write → IsRowJudgedInPart rules lefts old new)
