-- The replies to a batch of orders, as lists.
use Rattle.std.proofs.Common.{◌≡◌, ◌+◌, ◌≤◌, List, [], ◌∷◌, ◌++◌, All, length, map, take, drop, ap, ◌∙◌, arith}
use Rattle.std.proofs.Math.Seq.{drop-append_seam, take-length}
use Rattle.std.proofs.lemmas.List.{drop-append-le, length-drop, take-append-le}
use Rattle.std.proofs.lemmas.List.Elements.{All-head, All-tail}
use Rattle.fl_counter.specs.declared.told_lists.Span.{Span}
use Rattle.fl_order.specs.declared.told.Told.{Told}

-- what stands at a place
abbrev at : List Told → Span → List Told
at tolds span = take span.len (drop span.start tolds)

abbrev IsWithin : List Told → Span → Type 0
IsWithin tolds span = span.start + span.len ≤ length tolds

-- it stays if more come behind all
same_at : (tolds more : List Told) (span : Span) → IsWithin tolds span → at (tolds ++ more) span ≡ at tolds span
same_at tolds more span within =
    ap (take span.len) (drop-append-le span.start tolds more (omega (arith, within)))
    ∙ take-append-le span.len (drop span.start tolds) more (omega (arith, within, length-drop span.start tolds))

-- one list more, behind the others
pub lists_more : (tolds more : List Told) (spans : List Span) (last : Span) → last.start ≡ length tolds
    → last.len ≡ length more → All (IsWithin tolds) spans
    → map (at (tolds ++ more)) (spans ++ last ∷ []) ≡ map (at tolds) spans ++ more ∷ []
lists_more tolds more [] last start len within =
    ap (λ l. l ∷ [])
    ((λ i. take (len i) (drop (start i) (tolds ++ more))) ∙ ap (take (length more)) (drop-append_seam tolds more)
    ∙ take-length more)
lists_more tolds more (s ∷ spans) last start len within = λ i.
    same_at tolds more s (All-head (IsWithin tolds) s spans within) i
    ∷ lists_more tolds more spans last start len (All-tail (IsWithin tolds) s spans within) i
