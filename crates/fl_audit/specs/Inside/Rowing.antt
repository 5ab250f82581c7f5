-- What is known of pieces while they are read one after another.
use Rattle.std.specs.Prelude.{◌≡◌, ℕ, List, [], ◌∷◌, ◌++◌, map, take, Option, Some, None}
use Rattle.std.specs.List.{AllByRecursion}
use Rattle.fl_audit.specs.Inside.Seams.{end_seen}
use Rattle.fl_audit.specs.Pieces.{Piece, End, end_of, GoesOnFrom, BreaksAt, IsRow}
use Rattle.fl_audit.specs.Rows.{AreLeft}
use Rattle.fl_audit.specs.declared.row.Outcome.{Outcome}
use Rattle.fl_audit.specs.declared.row.Outcome.TheVariants.{Ends, Breaks}
use Rattle.fl_audit.specs.declared.seam.PieceEnd.{PieceEnd}
use Rattle.fl_desk.specs.Legal.{IsLegal}
use Rattle.fl_history.specs.declared.history.Line.{Line}
use Rattle.fl_judge.specs.Verdicts.{DiffersAt}
use Rattle.fl_trace.specs.Text.{text_of, Fits}
use Rattle.fl_waiting.specs.declared.rules.Rules.{Rules}

-- a piece is legal, and goes on from this end, if it has to
abbrev pub IsFit : Rules → Option End → List Line → Type 0
IsFit rules None lines = IsLegal rules lines
IsFit rules (Some end) lines = GoesOnFrom end (record { rules = rules; lines = lines })

-- line n is the first that isn't so
abbrev pub IsBroken : Rules → Option End → List Line → ℕ → Type 0
IsBroken rules None lines n = DiffersAt rules lines n
IsBroken rules (Some end) lines n = BreaksAt end (record { rules = rules; lines = lines }) n

-- which line is the first that isn't so, if one is
abbrev pub IsBreak : Rules → Option End → List Line → Option ℕ → Type 0
IsBreak rules end lines None = IsFit rules end lines
IsBreak rules end lines (Some n) = IsBroken rules end lines n

-- this is the end of a legal piece
abbrev pub IsEnd : Rules → List Line → PieceEnd → Type 0
IsEnd rules lines e = end_seen e ≡ end_of (record { rules = rules; lines = lines })

-- what comes of a piece
abbrev pub IsOutcome : Rules → Option End → List Line → Outcome → Type 0
IsOutcome rules end lines (Ends e) = IsFit rules end lines × IsEnd rules lines e
IsOutcome rules end lines (Breaks n) = IsBroken rules end lines n

-- what comes of a text
pub record IsTextOutcome (rules : Rules) (end : Option End) (text : List ℕ) (outcome : Outcome) : Type 0 where
  pub lines : List Line
  pub spelled : text ≡ text_of lines
  pub fits : Fits lines
  pub is : IsOutcome rules end lines outcome

-- the end of the last piece, if there is one
pub data IsLastEnd (pieces : List Piece) : Option PieceEnd → Type 0 where
  no_piece : pieces ≡ [] → IsLastEnd pieces None
  last_piece : (before : List Piece) (last : Piece) (e : PieceEnd) → pieces ≡ before ++ last ∷ []
      → IsEnd last.rules last.lines e → IsLastEnd pieces (Some e)

-- The first of what was left to read was read: these pieces, which are in a row, and end so.
pub record HaveRow (rules : List Rules) (lefts : List (Option (List ℕ))) (count : ℕ) (end : Option PieceEnd)
    : Type 0 where
  pub pieces : List Piece
  pub under : take count rules ≡ map (λ (piece : Piece). piece.rules) pieces
  pub fits : AllByRecursion (λ (piece : Piece). Fits piece.lines) pieces
  pub read : AreLeft (take count lefts) (map (λ (piece : Piece). text_of piece.lines) pieces)
  pub row : IsRow pieces
  pub ends : IsLastEnd pieces end
