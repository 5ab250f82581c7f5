-- What stands before and after the first newline of a text.
use Rattle.std.proofs.Common.{◌≡◌, ℕ, suc, ◌+◌, ◌-◌, ◌<◌, ◌==◌, Some, List, ◌∷◌, ◌++◌, length, get_or, take, drop, refl}
use Rattle.std.proofs.Common.{sym, ap, ◌∙◌, arith}
use Rattle.std.proofs.Common.{length-append, length-drop, drop-cons, add-one}
use Rattle.std.proofs.Math.Seq.{get_or-append_seam, take-append_seam, drop-append-add}
use Rattle.std.proofs.lemmas.Bool.{eqb-true, ne_eqb, lt-ltb}
use Rattle.std.proofs.lemmas.List.{get_or_append_left, take_all, take-append-drop}
use Rattle.std.proofs.lemmas.List.Quantifiers.{position-Some}
use Rattle.std.proofs.lemmas.List.Sums.{position_or_len_is}
use Rattle.std.proofs.lemmas.Option.{same_Some}
use Rattle.std.specs.List.{position, position_or_len}
use Rattle.std.specs.Str.Iter.{LacksByte}

pub at_newline : (line rest : List ℕ) → LacksByte 10 line → position (λ b. b == 10) (line ++ 10 ∷ rest) ≡ Some (length line)
at_newline line rest lacks =
    let within : length line < length (line ++ 10 ∷ rest) = omega (arith, length-append line (10 ∷ rest)) in
    let first : position_or_len (λ b. b == 10) (line ++ 10 ∷ rest) ≡ length line =
    position_or_len_is (λ b. b == 10) (line ++ 10 ∷ rest) (length line) 0 (omega arith)
    (λ k below. rw (get_or_append_left line (10 ∷ rest) 0 k below) (ne_eqb (get_or line k 0) 10 (lacks k below)))
    (λ _. rw (get_or-append_seam line 10 rest 0) refl) in
    rw (first, lt-ltb (length line) (length (line ++ 10 ∷ rest)) within) refl

-- all of what is left
rest_whole : (text : List ℕ) (n : ℕ) → take (length text - n) (drop n text) ≡ drop n text
rest_whole text n = take_all (length text - n) (drop n text) (omega (arith, length-drop n text))

pub cut_at_newline : (text : List ℕ) (end : ℕ) → position (λ b. b == 10) text ≡ Some end
    → text ≡ take end text ++ 10 ∷ take (length text - (end + 1)) (drop (end + 1) text)
cut_at_newline text end found =
    let at = position-Some (λ b. b == 10) text end 0 found in
    let byte : get_or text end 0 ≡ 10 = eqb-true (get_or text end 0) 10 at.1 in
    let within : end < length text = at.0 in
    let tail : drop end text ≡ 10 ∷ drop (end + 1) text = rw add-one (drop-cons text end 0 within ∙ ap (λ b. b ∷ drop (suc end) text) byte) in
    rw rest_whole (sym (take-append-drop end text) ∙ ap (λ left. take end text ++ left) tail)

pub parts_at_newline : (text line rest : List ℕ) (end : ℕ) → LacksByte 10 line → text ≡ line ++ 10 ∷ rest → position (λ b. b == 10) text ≡ Some end
    → (take end text ≡ line) × (take (length text - (end + 1)) (drop (end + 1) text) ≡ rest)
parts_at_newline text line rest end lacks e found =
    let same : end ≡ length line = same_Some end (length line) (sym found ∙ ap (position (λ b. b == 10)) e ∙ at_newline line rest lacks) in (
      ap (λ n. take n text) same ∙ ap (take (length line)) e ∙ take-append_seam line (10 ∷ rest),
      rest_whole text (end + 1) ∙ ap (λ n. drop (n + 1) text) same ∙ ap (drop (length line + 1)) e ∙ drop-append-add line (10 ∷ rest) 1,
    )
