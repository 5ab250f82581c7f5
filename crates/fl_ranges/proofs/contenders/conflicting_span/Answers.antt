use Rattle.std.proofs.Common.{rules, sym, ap, ◌∙◌}
use Rattle.std.specs.List.{find}
use Rattle.fl_spans.specs.Row.{spans_at}
use Rattle.fl_marks.specs.Conflict.{kinds_conflict}
use Rattle.fl_ranges.specs.Inside.Contenders.{span_conflicts}
use Rattle.fl_ranges.proofs.ContenderRows.{contender_span, own_span}
use Rattle.fl_ranges.proofs.contenders.conflicting_span.Goals as goal

pub returns-then-owner-key : goal.returns-then-owner-key
returns-then-owner-key c =
    let range = c.args.range.now in
    let xs = spans_at c.args.table.now c.args.row.now in
    sym (ap (λ o. find (span_conflicts c.args.key.now o range.start range.end c.args.kind) xs) c.if-owner-key.true
    ∙ own_span c.args.key.now range.start range.end c.args.kind xs)

pub returns : goal.returns
returns c =
    let range = c.args.range.now in
    let xs = spans_at c.args.table.now c.args.row.now in
    c.find.ensures (λ m. kinds_conflict c.args.kind m.kind) (λ a r k. search rules)
    ∙ contender_span c.args.key.now range.start range.end c.args.kind c.args.owner c.if-owner-key.false xs
