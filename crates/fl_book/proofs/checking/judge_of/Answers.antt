use Rattle.std.proofs.Common.{◌≡◌, ℕ, ◌+◌, Some, List, [], ◌∷◌, ◌++◌, take, slice_get, ap, sym, ◌∙◌}
use Rattle.std.proofs.Math.Numerals.{add-one}
use Rattle.std.proofs.Math.Seq.{take-suc}
use Rattle.std.proofs.lemmas.Option.{get_or_from_slice_get, slice_get_within}
use Rattle.fl_history.specs.declared.history.Line.{Line}
use Rattle.fl_judge.specs.Hearing.{Hearing}
use Rattle.fl_book.proofs.checking.judge_of.Goals as goal

one_more : (lines : List Line) (at : ℕ) (l : Line) → slice_get lines at ≡ Some l → take (at + 1) lines ≡ take at lines ++ l ∷ []
one_more lines at l is =
    ap (λ k. take k lines) (add-one at) ∙ take-suc lines at l (slice_get_within lines at l is)
    ∙ ap (λ x. take at lines ++ x ∷ []) (get_or_from_slice_get lines at l l is)

pub loop-at-preserved : goal.loop-at-preserved
loop-at-preserved c =
    let heard : List Line → Hearing = λ lines. record { rules = c.args.rules; lines = lines } in
    c.hear.ensures ∙ ap (λ (h : Hearing). record h { lines = h.lines ++ c.line.result ∷ [] }) c.loop-at.invariant
    ∙ ap heard (sym (one_more c.args.history.now c.loop-at.at c.line.result c.line.ensures))
