-- Two histories never have one text, and a text breaks at one line at most.
use Rattle.std.proofs.Common.{◌≡◌, ℕ, ◌+◌, ◌<◌, List, [], ◌∷◌, ◌++◌, length, get_or, false, refl, sym, ap, ◌∙◌, arith, All}
use Rattle.std.proofs.Common.{append_assoc, append-nil, length-append}
use Rattle.std.proofs.Math.Dec.{eqb}
use Rattle.std.proofs.lemmas.Bool.{ne_eqb}
use Rattle.std.proofs.lemmas.List.{append_cancel_left, get_or_default}
use Rattle.std.proofs.lemmas.List.Elements.{All-head, All-tail}
use Rattle.std.proofs.lemmas.List.Splits.{slice_split_at}
use Rattle.std.specs.List.{slice_split}
use Rattle.std.specs.Str.Iter.{LacksByte}
use Rattle.fl_trace.specs.Text.{line_text, text_of, LineFits, Fits, BreaksAt}
use Rattle.fl_history.specs.declared.history.Line.{Line}
use Rattle.fl_trace.proofs.ReadBack.{line_alone, line_lacks}
use Rattle.fl_words.specs.ReadBack.{AreReadBack}

-- what stands before the first newline
head_of : List (List ℕ) → List ℕ
head_of [] = []
head_of (part ∷ parts) = part

first_of : List ℕ → List ℕ
first_of text = head_of (slice_split (λ b. eqb b 10) text)

-- no byte of it is a newline
no_newline : (bs : List ℕ) → LacksByte 10 bs → All (λ b. eqb b 10 ≡ false) bs
no_newline bs lacks k d below = rw (get_or_default bs k d 0 below) (ne_eqb (get_or bs k 0) 10 (lacks k below))

first_line : (line : Line) (lines : List Line) (rest : List ℕ) → text_of (line ∷ lines) ++ rest ≡ line_text line ++ 10 ∷ (text_of lines ++ rest)
first_line line lines rest = simp append_assoc

some_line : (line : Line) (lines : List Line) (rest : List ℕ) → 0 < length (text_of (line ∷ lines) ++ rest)
some_line line lines rest = rw first_line (omega (arith, length-append (line_text line) (10 ∷ (text_of lines ++ rest))))

-- a rest that no line that fits begins
abbrev pub IsBad : List ℕ → Type 0
IsBad rest = (line : Line) (after : List ℕ) → LineFits line → rest ≡ line_text line ++ 10 ∷ after → ⊥

-- no line begins an empty text
nothing_bad : IsBad []
nothing_bad line after fits e = let n = ap length e in absurd (omega (arith, length-append (line_text line) (10 ∷ after)))

module _ (w : AreReadBack) where
  first_is : (line : Line) (after : List ℕ) → LineFits line → first_of (line_text line ++ 10 ∷ after) ≡ line_text line
  unfolding first_of head_of
  first_is line after fits = ap head_of (slice_split_at (λ b. eqb b 10) (line_text line) 10 after
      (no_newline (line_text line) (line_lacks w line fits)) refl)

  -- the first lines of a text are one
  pub first_alone : (line other : Line) (after later : List ℕ) → LineFits line → LineFits other → line_text line ++ 10 ∷ after ≡ line_text other ++ 10 ∷ later
      → (line ≡ other) × (after ≡ later)
  first_alone line other after later fits also e =
      let same : line_text line ≡ line_text other = sym (first_is line after fits) ∙ ap first_of e ∙ first_is other later also in
      let rests : 10 ∷ after ≡ 10 ∷ later =
      append_cancel_left (line_text line) (10 ∷ after) (10 ∷ later) (e ∙ ap (λ text. text ++ 10 ∷ later) (sym same)) in
      (line_alone w line other fits also same, cc)

  -- lines and a rest that no line begins are found again
  pub fronts_alone : (lines others : List Line) (rest left : List ℕ) → Fits lines → Fits others → IsBad rest → IsBad left
      → text_of lines ++ rest ≡ text_of others ++ left → lines ≡ others
  fronts_alone [] [] rest left fits also bad broken e = refl
  fronts_alone [] (other ∷ others) rest left fits also bad broken e =
      absurd (bad other (text_of others ++ left) (All-head LineFits other others also) (e ∙ first_line other others left))
  fronts_alone (line ∷ lines) [] rest left fits also bad broken e =
      absurd (broken line (text_of lines ++ rest) (All-head LineFits line lines fits) (sym e ∙ first_line line lines rest))
  fronts_alone (line ∷ lines) (other ∷ others) rest left fits also bad broken e =
      let first = first_alone line other (text_of lines ++ rest) (text_of others ++ left) (All-head LineFits line lines fits)
      (All-head LineFits other others also)
      (sym (first_line line lines rest) ∙ e ∙ first_line other others left) in
      let more = fronts_alone lines others rest left (All-tail LineFits line lines fits) (All-tail LineFits other others also) bad broken first.1 in
      λ i. first.0 i ∷ more i

  pub texts_alone : (lines others : List Line) → Fits lines → Fits others → text_of lines ≡ text_of others → lines ≡ others
  texts_alone lines others fits also e = fronts_alone lines others [] [] fits also nothing_bad nothing_bad (append-nil (text_of lines) ∙ e
      ∙ sym (append-nil (text_of others)))

  pub breaks_once : (text : List ℕ) (m n : ℕ) → BreaksAt LineFits text m → BreaksAt LineFits text n → m ≡ n
  breaks_once text m n b d = b.number ∙ ap (λ (lines : List Line). length lines + 1)
      (fronts_alone b.front d.front b.rest d.rest b.good d.good b.bad d.bad (sym b.parts ∙ d.parts)) ∙ sym d.number

  -- no text of lines that fit breaks
  pub breaks_never : (lines : List Line) (n : ℕ) → Fits lines → BreaksAt LineFits (text_of lines) n → ⊥
  breaks_never lines n fits b =
      let same : lines ≡ b.front = fronts_alone lines b.front [] b.rest fits b.good nothing_bad b.bad (append-nil (text_of lines) ∙ b.parts) in
      let none : [] ≡ b.rest = append_cancel_left (text_of lines) [] b.rest (append-nil (text_of lines) ∙ b.parts
      ∙ ap (λ (l : List Line). text_of l ++ b.rest) (sym same)) in
      let len = ap length none in
      let more = b.more in
      absurd (omega arith)
