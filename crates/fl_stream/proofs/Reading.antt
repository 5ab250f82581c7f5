-- A text that is read line by line.
use Rattle.std.proofs.Common.{◌≡◌, ℕ, ◌+◌, ◌<◌, List, [], ◌∷◌, ◌++◌, length, All, ap, sym, ◌∙◌, arith, append_assoc}
use Rattle.std.proofs.Common.{append-nil}
use Rattle.std.proofs.lemmas.Grind.{flat_map-append}
use Rattle.std.proofs.lemmas.List.Elements.{All-cons, All-append}
use Rattle.fl_trace.specs.Text.{line_text, text_of, LineFits, Fits, BreaksAt}
use Rattle.fl_history.specs.declared.history.Line.{Line}

-- the text is the lines that are read and the rest
pub record IsReadSoFar (text : List ℕ) (lines : List Line) (rest : List ℕ) : Type 0 where
  pub fits : Fits lines
  pub parts : text ≡ text_of lines ++ rest

pub read_more : (text rest after : List ℕ) (lines : List Line) (line : Line) → IsReadSoFar text lines rest → rest ≡ line_text line ++ 10 ∷ after → LineFits line
    → IsReadSoFar text (lines ++ line ∷ []) after
read_more text rest after lines line read first fits =
    let more : text_of (lines ++ line ∷ []) ++ after ≡ text_of lines ++ (line_text line ++ 10 ∷ after) = simp (flat_map-append, append_assoc) in
    let one : All LineFits (line ∷ []) = All-cons LineFits line [] fits (λ k d below. absurd (omega arith)) in
    record {
      fits = All-append LineFits lines (line ∷ []) read.fits one;
      parts = read.parts ∙ ap (λ left. text_of lines ++ left) first ∙ sym more;
    }

-- all of it is read
pub read_whole : (text rest : List ℕ) (lines : List Line) → IsReadSoFar text lines rest → length rest ≡ 0 → text ≡ text_of lines
read_whole text [] lines read none = read.parts ∙ append-nil (text_of lines)
read_whole text (b ∷ rest) lines read none = absurd (omega arith)

pub breaks : (text rest : List ℕ) (lines : List Line) (n : ℕ) → IsReadSoFar text lines rest → 0 < length rest → n ≡ length lines + 1
    → ((line : Line) (after : List ℕ) → LineFits line → rest ≡ line_text line ++ 10 ∷ after → ⊥) → BreaksAt LineFits text n
breaks text rest lines n read more number bad = record {
  front = lines;
  rest = rest;
  good = read.fits;
  parts = read.parts;
  number = number;
  more = more;
  bad = bad;
}
