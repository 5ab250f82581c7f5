-- A line begins with a mark, or it doesn't.
use Rattle.std.proofs.Common.{◌≡◌, ◌≢◌, ℕ, ◌++◌, Bool, true, false, cond, List, [], ◌∷◌, length, take, drop, refl, sym}
use Rattle.std.proofs.Common.{ap, ◌∙◌, subst}
use Rattle.std.proofs.lemmas.List.{take-append-drop}
use Rattle.std.proofs.lemmas.Slice.Eq.{bytes_eq-Decides}
use Rattle.std.specs.Str.{bytes_eq}
use Rattle.std.specs.Str.Pattern.{FindsTextPrefix, LacksTextAt, StripsPrefix}
use Rattle.fl_testing.specs.Inside.Stored.{behind}

-- it does
pub behind_it : (mark line : List ℕ) → line ≡ mark ++ drop (length mark) line → behind mark line ≡ drop (length mark) line
behind_it mark line e =
    let begins : take (length mark) line ≡ mark = ap (take (length mark)) e ∙ take_front mark (drop (length mark) line) in
    ap (λ b. cond b (drop (length mark) line) []) ((bytes_eq-Decides (take (length mark) line) mark).1 begins)
  where
    take_front : (xs ys : List ℕ) → take (length xs) (xs ++ ys) ≡ xs
    take_front [] ys = refl
    take_front (x ∷ xs) ys = ap (λ t. x ∷ t) (take_front xs ys)

-- it doesn't
pub behind_none : (mark line : List ℕ) → ((rest : List ℕ) → line ≢ mark ++ rest) → behind mark line ≡ []
behind_none mark line none = go (bytes_eq (take (length mark) line) mark) refl
  where
    go : (b : Bool) → bytes_eq (take (length mark) line) mark ≡ b → behind mark line ≡ []
    go true e =
        let begins : take (length mark) line ≡ mark = (bytes_eq-Decides (take (length mark) line) mark).0 e in
        absurd (none (drop (length mark) line) (sym (take-append-drop (length mark) line) ∙ ap (λ t. t ++ drop (length mark) line) begins))
    go false e = ap (λ b. cond b (drop (length mark) line) []) e

-- the same of what `strip_prefix` answers
pub stripped : (mark line rest : List ℕ) → StripsPrefix (FindsTextPrefix mark) line rest → behind mark line ≡ rest
stripped mark line rest h =
    behind_it mark line (subst (λ n. line ≡ mark ++ drop n line) h.1.0 h.1.1) ∙ sym (h.2 ∙ ap (λ n. drop n line) h.1.0)

pub not_stripped : (mark line : List ℕ) → LacksTextAt mark line 0 → behind mark line ≡ []
not_stripped mark line none = behind_none mark line none
