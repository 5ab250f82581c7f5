-- What is known of the lines of a piece that has to go on from the end of another, while they are heard.
use Rattle.std.specs.Prelude.{◌≡◌, ◌≢◌, ℕ, Bool, true, false, Option, Some, None, IfSome, List, [], ◌++◌, length}
use Rattle.fl_audit.specs.Pieces.{End, BeginsAt, Tells}
use Rattle.fl_audit.specs.declared.beside.Beside.{Beside}
use Rattle.fl_audit.specs.declared.seam.PieceEnd.{PieceEnd}
use Rattle.fl_audit.specs.declared.seam.Seam.{Seam}
use Rattle.fl_desk.specs.Heads.{IsHead}
use Rattle.fl_history.specs.declared.history.Line.{Line}
use Rattle.fl_waiting.specs.declared.rules.Rules.{Rules}

-- the end of a piece, as contracts see it
abbrev pub end_seen : PieceEnd → End
end_seen e = record { present = e.present; lines = e.lines }

-- a whole head that the lines begin with tells what is there at the end
abbrev pub HeadTells : Rules → End → List Line → Type 0
HeadTells rules end lines = (head rest : List Line) → lines ≡ head ++ rest → IsHead rules head → Tells rules end head

-- the lines go on from the end, as far as they are heard
pub record IsGoing (rules : Rules) (end : End) (lines : List Line) : Type 0 where
  pub begins : lines ≢ [] → BeginsAt end lines
  pub tells : HeadTells rules end lines

-- line n is the first that doesn't: it doesn't begin there, or behind it the head is whole, and tells anything else
pub data StopsAt (rules : Rules) (end : End) (lines : List Line) (n : ℕ) : Type 0 where
  first : n ≡ 1 → lines ≢ [] → (BeginsAt end lines → ⊥) → StopsAt rules end lines n
  told : BeginsAt end lines → (head rest : List Line) → lines ≡ head ++ rest → IsHead rules head → n ≡ length head
      → (Tells rules end head → ⊥) → StopsAt rules end lines n

-- whether lines go on with the last of them
abbrev pub GoesOrStops : Rules → End → List Line → Bool → Type 0
GoesOrStops rules end lines true = IsGoing rules end lines
GoesOrStops rules end lines false = StopsAt rules end lines (length lines)

-- which line is the first that doesn't go on from the end, if one is
abbrev pub IsFollowed : Rules → End → List Line → Option ℕ → Type 0
IsFollowed rules end lines None = IsGoing rules end lines
IsFollowed rules end lines (Some n) = StopsAt rules end lines n

-- that is known of a seam
abbrev pub IsSeam : Rules → List Line → Seam → Type 0
IsSeam rules lines s = IsFollowed rules (end_seen s.end) lines s.breaks

-- the last lines are the last of these, and that is known of the seam
abbrev pub IsBeside : Rules → List Line → Beside → Type 0
IsBeside rules lines b = IfSome b.recent (λ recent. recent ≡ lines) × IfSome b.seam (IsSeam rules lines)
