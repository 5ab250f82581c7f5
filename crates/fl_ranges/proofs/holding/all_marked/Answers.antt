use Rattle.std.proofs.Common.{◌≡◌, ◌≤◌, ◌∙◌, ℕ, true, false, Some, List, ap, sym, subst, arith}
use Rattle.std.proofs.lemmas.Option.{none-some}
use Rattle.fl_spans.specs.Row.{spans_at}
use Rattle.fl_spans.specs.Rows.{chain_count, row_lists, rows}
use Rattle.fl_spans.specs.Spans.{mark_at}
use Rattle.fl_spans.specs.declared.span.Span.{Span}
use Rattle.fl_marks.specs.declared.lock.Mark.{Mark}
use Rattle.fl_ranges.specs.Placing.{home}
use Rattle.fl_ranges.proofs.RowPlaces.{no_row_spans}
use Rattle.fl_ranges.proofs.RowRuns.{mark_kept}
use Rattle.fl_ranges.proofs.RowStrokes.{are_here, spans_here}
use Rattle.fl_ranges.proofs.holding.all_marked.Goals as goal

pub all_in_row-requires-clause-spans : goal.all_in_row-requires-clause-spans
all_in_row-requires-clause-spans c =
    let row = c.find_row-own in
    are_here c.args.table.now c.requires.table c.args.key.now row.result.0 row.ensures.at (sym row.ensures.own ∙ c.if-own.true)

pub returns-then-own : goal.returns-then-own
returns-then-own c =
    let row = c.find_row-own in
    let v = c.args.table.now in
    let key = c.args.key.now in
    let own = sym row.ensures.own ∙ c.if-own.true in
    let same : (byte : ℕ) → mark_at (spans_at v row.result.0) byte ≡ _ =
    λ byte. ap (λ (ss : List (Span Mark)). mark_at ss byte) (spans_here v c.requires.table key row.result.0 row.ensures.at own)
    ∙ sym (mark_kept (row_lists v) c.requires.table.kept (key, byte)) in (
      λ is byte from upto. sym (same byte) ∙ c.all_in_row.ensures.0 is byte from upto,
      λ all. c.all_in_row.ensures.1 (λ byte from upto. same byte ∙ all byte from upto),
    )

pub returns-else-own : goal.returns-else-own
returns-else-own c =
    let row = c.find_row-own in
    let v = c.args.table.now in
    let key = c.args.key.now in
    let none = sym row.ensures.own ∙ c.if-own.false in
    let empty = ap (λ (ss : List (Span Mark)). mark_at ss c.args.range.now.start) (no_row_spans key (rows v (home (chain_count v) key.node)) none) in
    let held = mark_kept (row_lists v) c.requires.table.kept (key, c.args.range.now.start) in (
      λ is. absurd (cc (sym c.if-own.false ∙ is)),
      λ all. absurd (none-some c.args.mark (sym (held ∙ empty) ∙ all c.args.range.now.start (omega arith) c.args.range.now.ordered)),
    )
