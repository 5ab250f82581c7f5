-- What is stored of lines that stand in pieces.
use Rattle.std.proofs.Common.{◌≡◌, ℕ, ◌≤◌, ◌<◌, ◌⊎◌, inl, inr, List, ◌++◌, drop, length, append_assoc, ap, sym, subst, ◌∙◌, arith}
use Rattle.std.proofs.lemmas.Bool.{cases_lt}
use Rattle.std.proofs.lemmas.List.{drop-append-le}
use Rattle.std.proofs.Math.ListN.{drop_of_length-le}
use mathlib.Core.List.{IsPrefix}
use Rattle.fl_history.specs.declared.history.Line.{Line}
use Rattle.fl_stream.specs.Pieced.{behind_head}

-- lines with others behind them
grows : (xs ys more : List Line) → IsPrefix xs ys → IsPrefix xs (ys ++ more)
grows xs ys more front = (front.0 ++ more, sym (append_assoc xs front.0 more) ∙ ap (λ l. l ++ more) front.1)

-- what comes behind a beginning
dropped : (n : ℕ) (xs more : List Line) → (n < length xs) ⊎ (length xs ≤ n) → IsPrefix (drop n xs) (drop n (xs ++ more))
dropped n xs more (inl lt) = (more, sym (drop-append-le n xs more (omega (arith, lt))))
dropped n xs more (inr le) = (drop n (xs ++ more), ap (λ l. l ++ drop n (xs ++ more)) (drop_of_length-le xs le))

-- what is stored of a piece, and so of all, grows
pub more_stored : (before head xs ys : List Line) → IsPrefix xs ys → IsPrefix (behind_head before head xs) (behind_head before head ys)
more_stored before head xs ys front =
    let n = length head in
    let later = dropped n xs front.0 (cases_lt n (length xs)) in
    (later.0, append_assoc before (drop n xs) later.0 ∙ ap (λ l. before ++ l) later.1 ∙ ap (λ l. behind_head before head l) front.1)

-- a new piece stores all lines before it
pub turned_stored : (before head noted piece lines next_head next_noted : List Line) → IsPrefix noted piece
    → lines ≡ behind_head before head piece → IsPrefix (behind_head before head noted) (behind_head lines next_head next_noted)
turned_stored before head noted piece lines next_head next_noted front all =
    grows (behind_head before head noted) lines (drop (length next_head) next_noted)
    (subst (IsPrefix (behind_head before head noted)) (sym all) (more_stored before head noted piece front))
