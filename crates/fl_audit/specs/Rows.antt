-- What is said of texts that are read one after another, each as a piece of a history.
use Rattle.std.specs.Prelude.{◌≡◌, ℕ, ◌+◌, List, [], ◌∷◌, ◌++◌, length, map, take, Option, IfSome}
use Rattle.std.specs.List.{AllByRecursion}
use Rattle.fl_audit.specs.Pieces.{Piece, IsRow, RowBreaksAt}
use Rattle.fl_audit.specs.declared.row.PieceReader.{PieceReader}
use Rattle.fl_audit.specs.declared.row.RowFinding.{RowFinding}
use Rattle.fl_audit.specs.declared.row.RowFinding.TheVariants.{Legal, Differs}
use Rattle.fl_trace.specs.Text.{text_of, BreaksAt, Fits, LineFits}
use Rattle.fl_waiting.specs.declared.rules.Rules.{Rules}

-- the rules of pieces that are to be read
abbrev pub rules_of : {R : Type 0} → List (PieceReader R) → List Rules
rules_of {R} pieces = map (λ (p : PieceReader R). p.rules) pieces

-- what is left to read of each, as far as that is known
abbrev pub left_of : {R : Type 0} → (R → Option (List ℕ)) → List (PieceReader R) → List (Option (List ℕ))
left_of {R} remaining pieces = map (λ (p : PieceReader R). remaining p.input) pieces

-- these are the texts that are left to read, as far as that is known
abbrev pub AreLeft : List (Option (List ℕ)) → List (List ℕ) → Type 0
AreLeft [] [] = Unit {0}
AreLeft (left ∷ lefts) (text ∷ texts) = IfSome left (λ bytes. bytes ≡ text) × AreLeft lefts texts
AreLeft _ _ = ⊥

-- The texts are those of these pieces, and others behind them, and the rules are theirs, and others behind them.
pub record ArePieces (rules : List Rules) (texts : List (List ℕ)) (pieces : List Piece) (others : List (List ℕ))
    : Type 0 where
  pub under : take (length pieces) rules ≡ map (λ (piece : Piece). piece.rules) pieces
  pub spelled : texts ≡ map (λ (piece : Piece). text_of piece.lines) pieces ++ others
  pub fits : AllByRecursion (λ (piece : Piece). Fits piece.lines) pieces

-- what is found of pieces, behind which others are left
abbrev pub IsFoundOf : List Piece → List (List ℕ) → RowFinding → Type 0
IsFoundOf pieces others Legal = IsRow pieces × (others ≡ [])
IsFoundOf pieces others (Differs at) = RowBreaksAt pieces at.piece at.line

-- this is found of texts, as far as they are read, each of which is judged by its own rules
pub record IsRowFinding (rules : List Rules) (texts : List (List ℕ)) (finding : RowFinding) : Type 0 where
  pub pieces : List Piece
  pub others : List (List ℕ)
  pub are : ArePieces rules texts pieces others
  pub found : IsFoundOf pieces others finding

-- The texts before number p, counted from 1, are those of pieces in a row, and line n of that one is the first that is
-- no line of a history.
pub record IsBadRow (rules : List Rules) (texts : List (List ℕ)) (p n : ℕ) : Type 0 where
  pub pieces : List Piece
  pub bad : List ℕ
  pub others : List (List ℕ)
  pub are : ArePieces rules texts pieces (bad ∷ others)
  pub row : IsRow pieces
  pub number : p ≡ length pieces + 1
  pub breaks : BreaksAt LineFits bad n

-- this is so of the texts that were left to read
pub record IsSoOfTexts (lefts : List (Option (List ℕ))) (IsSo : List (List ℕ) → Type 0) : Type 0 where
  pub texts : List (List ℕ)
  pub read : AreLeft lefts texts
  pub is : IsSo texts
