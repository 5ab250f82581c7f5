-- The lines of a text, one after another.
use Rattle.std.proofs.Common.{◌≡◌, ℕ, suc, ◌+◌, ◌==◌, Bool, true, false, List, [], ◌∷◌, take, drop, refl, sym, ap}
use Rattle.std.proofs.Common.{subst, arith, Some, None}
use Rattle.std.specs.List.{position_from}
use Rattle.lockd_faults.specs.HexLines.{lines_of, with_first, HasLine}

-- a text whose first newline is at place k, where places are counted from n
record IsFirstAt (text : List ℕ) (n i : ℕ) : Type 0 where
  k : ℕ
  place : i ≡ n + k
  lines : lines_of text ≡ take k text ∷ lines_of (drop (k + 1) text)

lines_later : (c : ℕ) (text : List ℕ) (k : ℕ) → (c == 10) ≡ false
    → lines_of text ≡ take k text ∷ lines_of (drop (k + 1) text)
    → lines_of (c ∷ text) ≡ take (suc k) (c ∷ text) ∷ lines_of (drop (suc k + 1) (c ∷ text))
lines_later c text k same lines =
    let one : suc k + 1 ≡ suc (k + 1) = omega arith in
    let whole : with_first c (lines_of text) ≡ with_first c (take k text ∷ lines_of (drop (k + 1) text)) = ap
    (with_first c) lines in
    rw (one, same) whole

first_char : (c : ℕ) (text : List ℕ) (n i : ℕ) (b : Bool) → (c == 10) ≡ b
    → (position_from (λ c. c == 10) (n + 1) text ≡ Some i → IsFirstAt text (n + 1) i)
    → position_from (λ c. c == 10) n (c ∷ text) ≡ Some i → IsFirstAt (c ∷ text) n i
first_char c text n i true same later e =
    let at : n ≡ i = cc (rw same at e) in
    record { k = 0; place = omega (arith, at); lines = rw same refl }
first_char c text n i false same later e =
    let at = later (rw same at e) in
    let place = at.place in
    record { k = suc at.k; place = omega arith; lines = lines_later c text at.k same at.lines }

first_at : (text : List ℕ) (n i : ℕ) → position_from (λ c. c == 10) n text ≡ Some i → IsFirstAt text n i
first_at [] n i e = absurd (cc e)
first_at (c ∷ text) n i e = first_char c text n i (c == 10) refl (first_at text (n + 1) i) e

no_char : (c : ℕ) (text : List ℕ) (n : ℕ) (b : Bool) → (c == 10) ≡ b
    → (position_from (λ c. c == 10) (n + 1) text ≡ None → lines_of text ≡ text ∷ [])
    → position_from (λ c. c == 10) n (c ∷ text) ≡ None → lines_of (c ∷ text) ≡ (c ∷ text) ∷ []
no_char c text n true same later e = let clash = rw same at e in absurd (cc clash)
no_char c text n false same later e =
    let lines : with_first c (lines_of text) ≡ with_first c (text ∷ []) = ap (with_first c) (later (rw same at e)) in
    rw same lines

no_newline : (text : List ℕ) (n : ℕ) → position_from (λ c. c == 10) n text ≡ None → lines_of text ≡ text ∷ []
no_newline [] n e = refl
no_newline (c ∷ text) n e = no_char c text n (c == 10) refl (no_newline text (n + 1)) e

-- the first line, by where the first newline is
pub split_line_is : (text : List ℕ) (i : ℕ) → position_from (λ c. c == 10) 0 text ≡ Some i
    → lines_of text ≡ take i text ∷ lines_of (drop (i + 1) text)
split_line_is text i e =
    let at = first_at text 0 i e in
    let same : i ≡ at.k = omega (arith, at.place) in
    subst (λ k. lines_of text ≡ take k text ∷ lines_of (drop (k + 1) text)) (sym same) at.lines

pub only_line_is : (text : List ℕ) → position_from (λ c. c == 10) 0 text ≡ None → lines_of text ≡ text ∷ []
only_line_is text e = no_newline text 0 e

has_line_more : (c : ℕ) (text : List ℕ) (b : Bool) → (c == 10) ≡ b → HasLine text → HasLine (c ∷ text)
has_line_more c text true same more = record { line = []; lines = lines_of text; is = rw same refl }
has_line_more c text false same more =
    let is : with_first c (lines_of text) ≡ with_first c (more.line ∷ more.lines) = ap (with_first c) more.is in
    record { line = c ∷ more.line; lines = more.lines; is = rw same is }

pub has_line : (text : List ℕ) → HasLine text
has_line [] = record { line = []; lines = []; is = refl }
has_line (c ∷ text) = has_line_more c text (c == 10) refl (has_line text)
