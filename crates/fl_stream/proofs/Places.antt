-- The lines of a history by their places.
use Rattle.std.proofs.Common.{◌≡◌, ℕ, ◌+◌, ◌≤◌, Some, List, [], ◌∷◌, ◌++◌, length, take, get_or, All, sym, ap, ◌∙◌}
use Rattle.std.proofs.Common.{subst, arith, append-nil}
use Rattle.std.proofs.lemmas.Grind.{flat_map-append}
use Rattle.std.proofs.lemmas.List.{take_all, take_more}
use Rattle.std.proofs.lemmas.List.Elements.{All-append, All-cons}
use Rattle.std.proofs.lemmas.Option.{slice_get_within, unwrap_or-slice_get}
use Rattle.std.specs.List.{slice_get}
use Rattle.std.specs.Option.{unwrap_or}
use Rattle.fl_trace.specs.Text.{line_text, text_of, LineFits, Fits}
use Rattle.fl_history.specs.declared.history.Line.{Line}

-- one line more
take_line : (lines : List Line) (at : ℕ) (line : Line) → slice_get lines at ≡ Some line → take (at + 1) lines ≡ take at lines ++ line ∷ []
take_line lines at line is =
    let there : get_or lines at line ≡ line = sym (unwrap_or-slice_get lines at line) ∙ ap (λ held. unwrap_or held line) is in
    take_more lines at line (slice_get_within lines at line is) ∙ ap (λ last. take at lines ++ last ∷ []) there

pub text_more : (lines : List Line) (at : ℕ) (line : Line) (old new : List ℕ) → old ≡ text_of (take at lines) → slice_get lines at ≡ Some line
    → new ≡ old ++ (line_text line ++ 10 ∷ []) → new ≡ text_of (take (at + 1) lines)
text_more lines at line old new before is pushed =
    pushed
    ∙ ap (λ text. text ++ (line_text line ++ 10 ∷ [])) before
    ∙ ap (λ text. text_of (take at lines) ++ text) (sym (append-nil (line_text line ++ 10 ∷ [])))
    ∙ sym (ap text_of (take_line lines at line is) ∙ simp flat_map-append)

pub fits_more : (lines : List Line) (at : ℕ) (line : Line) → Fits (take at lines) → slice_get lines at ≡ Some line → LineFits line → Fits (take (at + 1) lines)
fits_more lines at line before is fits =
    let one : All LineFits (line ∷ []) = All-cons LineFits line [] fits (λ k d below. absurd (omega arith)) in
    subst (λ (l : List Line). Fits l) (sym (take_line lines at line is)) (All-append LineFits (take at lines) (line ∷ []) before one)

pub fits_all : (lines : List Line) (at : ℕ) → length lines ≤ at → Fits (take at lines) → Fits lines
fits_all lines at past fits = subst (λ (l : List Line). Fits l) (take_all at lines past) fits
