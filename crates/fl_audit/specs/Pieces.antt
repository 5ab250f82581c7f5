-- Histories that stand in pieces, one after another: each piece but the first begins with a head that tells exactly
-- what is there after the piece before. Each is judged by its own rules.
use Rattle.std.specs.Prelude.{◌≡◌, ℕ, ◌+◌, not, List, [], ◌∷◌, ◌++◌, length}
use Rattle.std.specs.List.{filter, flat_map}
use Rattle.fl_core.specs.State.{Snapshot, snapshot_of}
use Rattle.fl_desk.specs.Heads.{IsHead}
use Rattle.fl_desk.specs.Legal.{is_state, IsLegal}
use Rattle.fl_desk.specs.Replay.{state_after}
use Rattle.fl_history.specs.Place.{place_of}
use Rattle.fl_history.specs.declared.history.Line.{Line}
use Rattle.fl_history.specs.declared.history.Line.TheVariants as line
use Rattle.fl_judge.specs.Verdicts.{DiffersAt}
use Rattle.fl_order.specs.declared.state_part.Head.{Head}
use Rattle.fl_order.specs.declared.state_part.StateLine.TheVariants as state
use Rattle.fl_state.specs.Same.{HaveSame}
use Rattle.fl_waiting.specs.declared.rules.Rules.{Rules}

-- a piece: the rules that it is judged by, and its lines
pub record Piece : Type 0 where
  pub rules : Rules
  pub lines : List Line

-- the end of a piece: what is there, and how many orders and replies there are up to it
pub record End : Type 0 where
  pub present : Snapshot
  pub lines : ℕ

-- the end of a legal piece
abbrev pub end_of : Piece → End
end_of piece =
    record { present = snapshot_of (state_after piece.rules piece.lines); lines = (place_of piece.lines).lines }

-- the first line begins a head that names this number of lines, and the numbers that come next
pub record BeginsAt (end : End) (piece : List Line) : Type 0 where
  pub head : Head
  pub rest : List Line
  pub first : piece ≡ line.State (state.Head head) ∷ rest
  pub lines : head.lines ≡ end.lines
  pub node : head.node ≡ end.present.view.directory.next_node
  pub fh : head.fh ≡ end.present.view.directory.next_fh

-- A head tells under these rules exactly what is there: the same is there, and if the rules are those that were there,
-- both are equal.
pub record Tells (rules : Rules) (end : End) (head : List Line) : Type 0 where
  pub same : HaveSame end.present (snapshot_of (state_after rules head))
  pub equal : end.present.rules ≡ rules → end.present ≡ snapshot_of (state_after rules head)

-- a legal piece that goes on from the end of another: it begins with a head that says so, and tells what is there
pub record GoesOnFrom (end : End) (piece : Piece) : Type 0 where
  pub legal : IsLegal piece.rules piece.lines
  pub begins : BeginsAt end piece.lines
  pub head : List Line
  pub rest : List Line
  pub parts : piece.lines ≡ head ++ rest
  pub is_head : IsHead piece.rules head
  pub tells : Tells piece.rules end head

-- No piece; or a legal one; or some in a row, and one more that goes on from the end of the last.
pub data IsRow : List Piece → Type 0 where
  none : IsRow []
  first : (piece : Piece) {pieces : List Piece} → IsLegal piece.rules piece.lines → pieces ≡ piece ∷ [] → IsRow pieces
  next : (before : List Piece) (last piece : Piece) {pieces : List Piece} → IsRow (before ++ last ∷ [])
      → GoesOnFrom (end_of last) piece → pieces ≡ (before ++ last ∷ []) ++ piece ∷ [] → IsRow pieces

-- Line n of a piece is the first that doesn't go on from the end of another: the first line, if it doesn't begin there;
-- or that behind which its head is whole, if that tells anything else; or else the one that breaks the rules.
pub data BreaksAt (end : End) (piece : Piece) (n : ℕ) : Type 0 where
  at_first : n ≡ 1 → (BeginsAt end piece.lines → ⊥) → BreaksAt end piece n
  at_head : BeginsAt end piece.lines → (head rest : List Line) → piece.lines ≡ head ++ rest → IsHead piece.rules head
      → n ≡ length head → (Tells piece.rules end head → ⊥) → BreaksAt end piece n
  at_line : BeginsAt end piece.lines
      → ((head rest : List Line) → piece.lines ≡ head ++ rest → IsHead piece.rules head → Tells piece.rules end head)
      → DiffersAt piece.rules piece.lines n → BreaksAt end piece n

-- Of pieces, those before number p, counted from 1, are in a row, and line n of that one is the first that breaks it.
pub data RowBreaksAt (pieces : List Piece) (p n : ℕ) : Type 0 where
  in_first : (piece : Piece) (rest : List Piece) → pieces ≡ piece ∷ rest → p ≡ 1 → DiffersAt piece.rules piece.lines n
      → RowBreaksAt pieces p n
  later : (before : List Piece) (last piece : Piece) (rest : List Piece)
      → pieces ≡ (before ++ last ∷ []) ++ piece ∷ rest → p ≡ length before + 2 → IsRow (before ++ last ∷ [])
      → BreaksAt (end_of last) piece n → RowBreaksAt pieces p n

-- the orders and replies of a piece
abbrev pub without_head : Piece → List Line
without_head piece = filter (λ l. not (is_state l)) piece.lines

-- pieces in a row as one history: that of the first, and behind it the orders and replies of the others
abbrev pub whole_of : List Piece → List Line
whole_of [] = []
whole_of (piece ∷ rest) = piece.lines ++ flat_map without_head rest
