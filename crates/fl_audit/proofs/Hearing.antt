-- A text whose lines are heard one after another.
use Rattle.std.proofs.Common.{◌≡◌, ℕ, ◌+◌, ◌≤◌, inl, inr, true, false, Option, Some, None, List, [], ◌∷◌, ◌++◌, length, All, refl, ap, sym, ◌∙◌}
use Rattle.std.proofs.Common.{arith, append_assoc, append-nil, length-append}
use Rattle.std.proofs.lemmas.Bool.{cases_lt}
use Rattle.std.proofs.lemmas.Grind.{flat_map-append}
use Rattle.std.proofs.lemmas.List.Elements.{All-cons, All-nil, All-append}
use Rattle.fl_audit.specs.Audit.{has_newline}
use Rattle.fl_audit.specs.First.{IsWithin}
use Rattle.fl_audit.specs.Inside.Hearing.{HearsAll, HearsEnough, IsBadBehind}
use Rattle.fl_audit.proofs.Newlines.{first_newline}
use Rattle.fl_history.specs.declared.history.Line.{Line}
use Rattle.fl_audit.specs.Inside.Keeping.{Keeping}
use Rattle.fl_trace.specs.Text.{line_text, text_of, LineFits, Fits}

-- if so many lines are wanted, and not just these, then one more is
one_more : (most : Option ℕ) (k n : ℕ) → IsWithin most k → (most ≡ Some k → ⊥) → n ≡ k + 1 → IsWithin most n
one_more None k n within more at = tt
one_more (Some m) k n within more at = elim (cases_lt k m) [
  | inl less ↦ omega (arith, less, at)
  | inr same ↦ absurd (more (let e : m ≡ k = omega (arith, same, within) in ap Some e))
]

-- some lines of a text were heard, no more than are wanted, and this is its rest
pub record IsHearing (most : Option ℕ) (before now : Keeping) (text rest : List ℕ) : Type 0 where
  pub heard : List Line
  pub fits : Fits heard
  pub are : now.lines ≡ before.lines ++ heard
  pub parts : text ≡ text_of heard ++ rest
  pub count : length now.lines + length rest ≤ length before.lines + length text
  pub rules : now.rules ≡ before.rules
  pub along : now.along ≡ before.along
  pub within : IsWithin most (length now.lines)

pub hearing_starts : (most : Option ℕ) (before : Keeping) (text : List ℕ) → IsWithin most (length before.lines) → IsHearing most before before text text
hearing_starts most before text within = record {
  heard = [];
  fits = All-nil LineFits;
  are = sym (append-nil before.lines);
  parts = refl;
  count = omega arith;
  rules = refl;
  along = refl;
  within = within;
}

pub hearing_on : (most : Option ℕ) (before now new : Keeping) (text rest after : List ℕ) (line : Line) → IsHearing most before now text rest
    → (most ≡ Some (length now.lines) → ⊥) → LineFits line → rest ≡ line_text line ++ 10 ∷ after
    → new ≡ record now { lines = now.lines ++ line ∷ [] } → IsHearing most before new text after
hearing_on most before now new text rest after line h wanted fits first is =
    let one : All LineFits (line ∷ []) = All-cons LineFits line [] fits (All-nil LineFits) in
    let more : text_of (h.heard ++ line ∷ []) ++ after ≡ text_of h.heard ++ (line_text line ++ 10 ∷ after) = simp (flat_map-append, append_assoc) in
    let count = h.count in
    let lines : new.lines ≡ now.lines ++ line ∷ [] = ap (λ (k : Keeping). k.lines) is in
    record {
      heard = h.heard ++ line ∷ [];
      fits = All-append LineFits h.heard (line ∷ []) h.fits one;
      are = lines ∙ ap (λ ls. ls ++ line ∷ []) h.are ∙ append_assoc before.lines h.heard (line ∷ []);
      parts = h.parts ∙ ap (λ t. text_of h.heard ++ t) first ∙ sym more;
      count = omega (arith, count, ap length first, ap length lines, length-append (line_text line) (10 ∷ after), length-append now.lines (line ∷ []));
      rules = ap (λ (k : Keeping). k.rules) is ∙ h.rules;
      along = ap (λ (k : Keeping). k.along) is ∙ h.along;
      within = one_more most (length now.lines) (length new.lines) h.within wanted (ap length lines ∙ length-append now.lines (line ∷ []));
    }

pub hearing_ends : (most : Option ℕ) (before now : Keeping) (text rest : List ℕ) (n : ℕ) → IsHearing most before now text rest → has_newline rest ≡ false
    → n ≡ length rest → HearsAll before.lines now.lines text n
hearing_ends most before now text rest n h none long = record {
  heard = h.heard;
  rest = rest;
  fits = h.fits;
  are = h.are;
  parts = h.parts;
  long = long;
  lacks = none;
}

pub hearing_enough : (most : Option ℕ) (before now : Keeping) (text rest : List ℕ) → IsHearing most before now text rest → most ≡ Some (length now.lines)
    → HearsEnough most before.lines now.lines text
hearing_enough most before now text rest h many = record {
  heard = h.heard;
  rest = rest;
  fits = h.fits;
  are = h.are;
  parts = h.parts;
  many = many;
}

pub hearing_bad : (most : Option ℕ) (before now : Keeping) (text rest : List ℕ) (n : ℕ) → IsHearing most before now text rest
    → (most ≡ Some (length now.lines) → ⊥) → has_newline rest ≡ true
    → ((line : Line) (after : List ℕ) → LineFits line → rest ≡ line_text line ++ 10 ∷ after → ⊥) → n ≡ length now.lines + 1
    → IsBadBehind (length before.lines) text n × IsWithin most n
hearing_bad most before now text rest n h wanted some no_line number =
    let w = first_newline rest some in (
      record {
        front = h.heard;
        bad = w.front;
        after = w.after;
        fits = h.fits;
        parts = h.parts ∙ ap (λ t. text_of h.heard ++ t) w.parts;
        lacks = w.lacks;
        wrong = λ line fits e. no_line line w.after fits (w.parts ∙ ap (λ t. t ++ 10 ∷ w.after) (sym e));
        number = omega (arith, number, ap length h.are, length-append before.lines h.heard);
      },
      one_more most (length now.lines) n h.within wanted number,
    )
