-- Why pieces aren't judged.
use Rattle.std.proofs.Common.{◌≡◌, ℕ, Option, List}
use Rattle.std.specs.Io.KnownBytes.{Keeps}
use Rattle.fl_audit.specs.Rows.{IsBadRow, IsSoOfTexts}
use Rattle.fl_audit.specs.declared.finding.AuditFault.TheVariants as audits
use Rattle.fl_audit.specs.declared.row.RowFault.{RowFault}
use Rattle.fl_waiting.specs.declared.rules.Rules.{Rules}
use Rattle.lockd_commands.specs.Row.Inside.{IsFailure, IsFailureOf}
use Rattle.lockd_commands.specs.declared.row.Failed.{Failed}
use Rattle.lockd_commands.specs.declared.row.Failed.TheVariants as failed

-- an audit gave up, and nothing was written
pub gave_up : (rules : List Rules) (lefts : List (Option (List ℕ))) (held : Option (List ℕ)) (fault : RowFault) (why : Failed)
    → IsFailureOf fault why
    → ((piece line : ℕ) → fault ≡ record { piece = piece; fault = audits.BadLine line }
    → IsSoOfTexts lefts (λ texts. IsBadRow rules texts piece line))
    → Keeps held held → IsFailure rules lefts held held why
gave_up rules lefts held fault (failed.BadLine bad) is row kept =
    let same : fault ≡ record { piece = fault.piece; fault = audits.BadLine bad.line } =
    λ i. record { piece = fault.piece; fault = is.0 i } in
    ((fault.piece, row fault.piece bad.line same, is.1), kept)
gave_up rules lefts held fault (failed.Other other) is row kept = (is.1, λ _. kept, λ same. absurd (is.0 same))
