use Rattle.std.proofs.Common.{◌↔◌, ◌<◌, sym, ap, subst, ◌∙◌}
use Rattle.std.specs.Prelude.{IsErr}
use Rattle.fl_spans.specs.Rows.{chain_count, limit_of}
use Rattle.fl_marks.specs.Marking.{stroked}
use Rattle.fl_marks.specs.Runs.{runs}
use Rattle.fl_ranges.specs.Inside.LockRows.{row_marks, IsLockTable}
use Rattle.fl_ranges.proofs.RowStrokes.{either_way, then_ok, are_here, here_full, here_stroked, here_kept, new_full}
use Rattle.fl_ranges.proofs.RowStrokes.{new_stroked, new_kept}
use Rattle.fl_ranges.proofs.RowStrokes.{left_stroked, left_room}
use Rattle.fl_ranges.proofs.row_change.stroke.Goals as goal

pub stroke-requires-clause-spans : goal.stroke-requires-clause-spans
stroke-requires-clause-spans c =
    are_here c.args.table.now c.requires.table c.args.key.now c.find_row-own.result.0 c.find_row-own.ensures.at (sym c.find_row-own.ensures.own ∙ c.if-own.true)

pub returns-then-own-clause-full : goal.returns-then-own-clause-full
returns-then-own-clause-full c =
    let over = here_full c.args.table.now c.requires.table c.args.key.now c.find_row-own.result.0 c.find_row-own.ensures.at
    (sym c.find_row-own.ensures.own ∙ c.if-own.true) c.args.range.now.start c.args.range.now.end c.args.mark _ c.stroke.ensures.spans c.stroke.ensures.marks in
    (λ e. over.0 (c.stroke.ensures.full.0 e), λ h. c.stroke.ensures.full.1 (over.1 h))

pub returns-then-own-clause-ok : goal.returns-then-own-clause-ok
returns-then-own-clause-ok c =
    then_ok c.stroke.result c.stroke.ensures.rows (λ is.
    here_stroked c.args.table.now c.requires.table c.args.key.now c.find_row-own.result.0 c.find_row-own.ensures.at
    (sym c.find_row-own.ensures.own ∙ c.if-own.true) c.args.range.now.start c.args.range.now.end c.args.mark _ c.stroke.ensures.spans c.stroke.ensures.marks
    c.stroke.new.rows is)

pub returns-then-own-clause-table : goal.returns-then-own-clause-table
returns-then-own-clause-table c =
    either_way c.stroke.result c.stroke.ensures.rows c.stroke.ensures.err
    (λ fine is.
    here_kept c.args.table.now c.requires.table c.args.key.now c.find_row-own.result.0 c.find_row-own.ensures.at
    (sym c.find_row-own.ensures.own ∙ c.if-own.true) c.args.range.now.start c.args.range.now.end c.args.mark _ c.stroke.ensures.spans c.stroke.ensures.marks
    c.stroke.new.rows is c.stroke.ensures.size (λ more. fine (c.stroke.ensures.full.1 more)))
    (λ same. subst (λ v. IsLockTable v (limit_of c.args.table.now) (chain_count c.args.table.now)) (sym same) c.requires.table)

pub returns-in_default-clause-full : goal.returns-in_default-clause-full
returns-in_default-clause-full c = (
  λ e. absurd (cc e),
  λ more. absurd (left_room c.args.table.now c.requires.table c.args.key.now (sym c.find_row-own.ensures.own ∙ c.if-own.false)
      c.args.range.now.start c.args.range.now.end
      (subst (λ m. limit_of c.args.table.now < runs (stroked
      (record { key = c.args.key.now; start = c.args.range.now.start; end = c.args.range.now.end; mark = m })
      (row_marks c.args.table.now))) c.in_default.is more)),
)

pub returns-in_default-clause-ok : goal.returns-in_default-clause-ok
returns-in_default-clause-ok c =
    left_stroked c.args.table.now c.requires.table c.args.key.now (sym c.find_row-own.ensures.own ∙ c.if-own.false) c.args.range.now.start c.args.range.now.end
    ∙ ap (λ m. stroked (record { key = c.args.key.now; start = c.args.range.now.start; end = c.args.range.now.end; mark = m }) (row_marks c.args.table.now))
    (sym c.in_default.is)

pub returns-clause-full : goal.returns-clause-full
returns-clause-full c =
    let over = new_full c.args.table.now c.requires.table c.args.key.now c.find_row-own.result.0 c.find_row-own.ensures.at
    (sym c.find_row-own.ensures.own ∙ c.if-own.false) c.args.range.now.start c.args.range.now.end c.in-Some.mark c.args.range.now.ordered
    c.args.range.now.in_range in
    subst (λ m. IsErr c.insert_row.result ↔ (limit_of c.args.table.now
    < runs (stroked (record { key = c.args.key.now; start = c.args.range.now.start; end = c.args.range.now.end; mark = m }) (row_marks c.args.table.now))))
    (sym c.in-Some.is) (λ e. over.0 (c.insert_row.ensures.full.0 e), λ h. c.insert_row.ensures.full.1 (over.1 h))

pub returns-clause-ok : goal.returns-clause-ok
returns-clause-ok c =
    then_ok c.insert_row.result c.insert_row.ensures.rows (λ is.
    new_stroked c.args.table.now c.requires.table c.args.key.now c.find_row-own.result.0 c.find_row-own.ensures.at
    (sym c.find_row-own.ensures.own ∙ c.if-own.false) c.args.range.now.start c.args.range.now.end c.in-Some.mark c.args.range.now.ordered
    c.args.range.now.in_range
    c.insert_row.new.self is
    ∙ ap (λ m. stroked (record { key = c.args.key.now; start = c.args.range.now.start; end = c.args.range.now.end; mark = m }) (row_marks c.args.table.now))
    (sym c.in-Some.is))

pub returns-clause-table : goal.returns-clause-table
returns-clause-table c =
    either_way c.insert_row.result c.insert_row.ensures.rows c.insert_row.ensures.err
    (λ fine is.
    new_kept c.args.table.now c.requires.table c.args.key.now c.find_row-own.result.0 c.find_row-own.ensures.at
    (sym c.find_row-own.ensures.own ∙ c.if-own.false) c.args.range.now.start c.args.range.now.end c.in-Some.mark c.args.range.now.ordered
    c.args.range.now.in_range
    c.insert_row.new.self is c.insert_row.ensures.size (λ full. fine (c.insert_row.ensures.full.1 full)))
    (λ same. subst (λ v. IsLockTable v (limit_of c.args.table.now) (chain_count c.args.table.now)) (sym same) c.requires.table)
