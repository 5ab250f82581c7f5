-- Pieces of a history that are judged.
pub mod Inside
use Rattle.std.specs.Prelude.{◌≡◌, ℕ, List, [], ◌∷◌, ◌++◌, codes, Option}
use Rattle.std.specs.Fmt.{decimal}
use Rattle.std.specs.Io.KnownBytes.{Appends}
use Rattle.fl_audit.specs.Rows.{IsBadRow, IsRowFinding, IsSoOfTexts}
use Rattle.fl_audit.specs.declared.row.PieceLine.{PieceLine}
use Rattle.fl_audit.specs.declared.row.RowFinding.{RowFinding}
use Rattle.fl_audit.specs.declared.row.RowFinding.TheVariants.{Legal, Differs}
use Rattle.fl_waiting.specs.declared.rules.Rules.{Rules}
use Rattle.lockd_faults.specs.Faults.{IsBegun}

-- a line of a piece, as the end of a line
abbrev pub place_text : PieceLine → List ℕ
place_text at = decimal at.line ++ (codes " of " ++ (decimal at.piece ++ 10 ∷ []))

-- the line that says what is found
abbrev pub row_text : RowFinding → List ℕ
row_text Legal = codes "legal" ++ 10 ∷ []
row_text (Differs at) = codes "differs " ++ place_text at

-- the pieces were judged so, each by its rules, and the answer was written
pub record IsRowJudged (rules : List Rules) (lefts : List (Option (List ℕ))) (old new : Option (List ℕ))
    (finding : RowFinding) : Type 0 where
  pub found : IsSoOfTexts lefts (λ texts. IsRowFinding rules texts finding)
  pub written : Appends old new (row_text finding)

-- the pieces were judged, and a beginning of the answer was written
pub record IsRowJudgedInPart (rules : List Rules) (lefts : List (Option (List ℕ))) (old new : Option (List ℕ))
    : Type 0 where
  pub finding : RowFinding
  pub found : IsSoOfTexts lefts (λ texts. IsRowFinding rules texts finding)
  pub begun : IsBegun (row_text finding) old new

-- Line n of some piece is the first that is no line of a history, and that was reported, or after a failed write a
-- prefix of it.
pub record IsBadRowTold (rules : List Rules) (lefts : List (Option (List ℕ))) (n : ℕ) (old new : Option (List ℕ))
    : Type 0 where
  pub piece : ℕ
  pub bad : IsSoOfTexts lefts (λ texts. IsBadRow rules texts piece n)
  pub begun : IsBegun (codes "bad line " ++ place_text (record { piece = piece; line = n })) old new
