-- Texts with newlines and without.
use Rattle.std.proofs.Common.{◌≡◌, ℕ, suc, ◌≤◌, Bool, true, false, ◌||◌, ◌==◌, if◌then◌else◌, List, [], ◌∷◌, ◌++◌}
use Rattle.std.proofs.Common.{length, refl, ap, sym, ◌∙◌, subst, arith, append_assoc}
use Rattle.std.proofs.lemmas.Bool.{eqb-true, ne_eqb}
use Rattle.std.proofs.lemmas.List.Folds.{list_any-append}
use Rattle.std.specs.Str.Iter.{LacksByte}
use Rattle.fl_audit.specs.Audit.{has_newline, whole_lines}
use Rattle.fl_history.specs.declared.history.Line.{Line}
use Rattle.fl_trace.specs.Text.{line_text, text_of}

neither : (x y : Bool) → (x || y) ≡ false → (x ≡ false) × (y ≡ false)
neither true y e = absurd (cc e)
neither false y e = (refl, e)

or_true : (x : Bool) → (x || true) ≡ true
or_true true = refl
or_true false = refl

pub none_both : (xs ys : List ℕ) → has_newline (xs ++ ys) ≡ false → (has_newline xs ≡ false) × (has_newline ys ≡ false)
none_both xs ys none = neither (has_newline xs) (has_newline ys) (sym (list_any-append (λ b. b == 10) xs ys) ∙ none)

pub none_joined : (xs ys : List ℕ) → has_newline xs ≡ false → has_newline ys ≡ false → has_newline (xs ++ ys) ≡ false
none_joined xs ys none also = list_any-append (λ b. b == 10) xs ys ∙ (λ i. none i || also i)

one_there : (xs ys : List ℕ) → has_newline (xs ++ 10 ∷ ys) ≡ true
one_there xs ys = list_any-append (λ b. b == 10) xs (10 ∷ ys) ∙ or_true (has_newline xs)

pub seam : (xs ys : List ℕ) → has_newline (xs ++ 10 ∷ ys) ≡ false → ⊥
seam xs ys none = let one = one_there xs ys in cc (one, none)

-- in both words
pub lacks_none : (bs : List ℕ) → LacksByte 10 bs → has_newline bs ≡ false
lacks_none [] lacks = refl
lacks_none (b ∷ bs) lacks =
    let own : (b == 10) ≡ false = ne_eqb b 10 (lacks 0 (omega arith)) in
    λ i. own i || lacks_none bs (λ k below. lacks (suc k) (omega arith)) i

-- a text up to its first newline
pub record AtNewline (text : List ℕ) : Type 0 where
  pub front : List ℕ
  pub after : List ℕ
  pub lacks : has_newline front ≡ false
  pub parts : text ≡ front ++ 10 ∷ after

at_newline : (x : ℕ) (xs : List ℕ) (b : Bool) → (x == 10) ≡ b → (b || has_newline xs) ≡ true → (has_newline xs ≡ true → AtNewline xs) → AtNewline (x ∷ xs)
at_newline x xs true is some more = record { front = []; after = xs; lacks = refl; parts = ap (λ y. y ∷ xs) (eqb-true x 10 is) }
at_newline x xs false is some more =
    let w = more some in
    record { front = x ∷ w.front; after = w.after; lacks = λ i. is i || w.lacks i; parts = ap (λ ys. x ∷ ys) w.parts }

pub first_newline : (xs : List ℕ) → has_newline xs ≡ true → AtNewline xs
first_newline [] some = absurd (cc some)
first_newline (x ∷ xs) some = at_newline x xs (x == 10) refl some (first_newline xs)

not_ten : (y : ℕ) (ys : List ℕ) → 10 ≡ y → has_newline (y ∷ ys) ≡ false → ⊥
not_ten y ys e none =
    let here : has_newline (10 ∷ ys) ≡ false = subst (λ z. has_newline (z ∷ ys) ≡ false) (sym e) none in
    cc here

-- what stands before the first newline is one
pub same_before : (xs ys more rest : List ℕ) → has_newline xs ≡ false → has_newline ys ≡ false → xs ++ 10 ∷ more ≡ ys ++ 10 ∷ rest → xs ≡ ys
same_before [] [] more rest none also e = refl
same_before [] (y ∷ ys) more rest none also e = absurd (not_ten y ys (cc e) also)
same_before (x ∷ xs) [] more rest none also e = absurd (not_ten x xs (sym (cc e)) none)
same_before (x ∷ xs) (y ∷ ys) more rest none also e =
    let head : x ≡ y = cc e in
    let tail : xs ++ 10 ∷ more ≡ ys ++ 10 ∷ rest = cc e in
    let same : xs ≡ ys = same_before xs ys more rest (neither (x == 10) (has_newline xs) none).1 (neither (y == 10) (has_newline ys) also).1 tail in
    λ i. head i ∷ same i

-- of two ways to part a text the shorter front begins the longer one
pub parted : (xs ys zs ws : List ℕ) → xs ++ ys ≡ zs ++ ws → length xs ≤ length zs → (m : List ℕ) × (zs ≡ xs ++ m) × (ys ≡ m ++ ws)
parted [] ys zs ws e short = (zs, refl, e)
parted (x ∷ xs) ys [] ws e short = absurd (omega arith)
parted (x ∷ xs) ys (z ∷ zs) ws e short =
    let head : z ≡ x = sym (cc e) in
    let tail : xs ++ ys ≡ zs ++ ws = cc e in
    let r = parted xs ys zs ws tail (omega arith) in
    (r.0, (λ i. head i ∷ r.1 i), r.2)

-- ---- up to the last newline

whole_none : (xs : List ℕ) → has_newline xs ≡ false → whole_lines xs ≡ []
whole_none [] none = refl
whole_none (x ∷ xs) none = ap (λ h. if h then x ∷ whole_lines xs else []) none

pub whole_seam : (xs ys : List ℕ) → whole_lines (xs ++ 10 ∷ ys) ≡ xs ++ 10 ∷ whole_lines ys
whole_seam [] ys = refl
whole_seam (x ∷ xs) ys =
    ap (λ h. if h then x ∷ whole_lines (xs ++ 10 ∷ ys) else []) (one_there (x ∷ xs) ys) ∙ ap (λ t. x ∷ t) (whole_seam xs ys)

-- a line in front
pub behind_line : (a t rest : List ℕ) → ((a ++ 10 ∷ []) ++ t) ++ rest ≡ a ++ 10 ∷ (t ++ rest)
behind_line a t rest = append_assoc (a ++ 10 ∷ []) t rest ∙ append_assoc a (10 ∷ []) (t ++ rest)

pub whole_text : (lines : List Line) (rest : List ℕ) → whole_lines (text_of lines ++ rest) ≡ text_of lines ++ whole_lines rest
whole_text [] rest = refl
whole_text (l ∷ lines) rest =
    ap whole_lines (behind_line (line_text l) (text_of lines) rest)
    ∙ whole_seam (line_text l) (text_of lines ++ rest)
    ∙ ap (λ t. line_text l ++ 10 ∷ t) (whole_text lines rest)
    ∙ sym (behind_line (line_text l) (text_of lines) (whole_lines rest))

pub whole_text_none : (lines : List Line) (rest : List ℕ) → has_newline rest ≡ false → whole_lines (text_of lines ++ rest) ≡ text_of lines ++ []
whole_text_none lines rest none = whole_text lines rest ∙ ap (λ t. text_of lines ++ t) (whole_none rest none)
