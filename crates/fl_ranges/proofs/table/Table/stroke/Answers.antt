use Rattle.std.proofs.Common.{◌<◌, ℕ, refl, sym, subst}
use Rattle.std.specs.Prelude.{IsErr}
use Rattle.fl_spans.specs.Rows.{limit_of}
use Rattle.fl_ranges.specs.LockTable.{LockTable}
use Rattle.fl_marks.specs.Marking.{stroke_on, stroked}
use Rattle.fl_marks.specs.Runs.{runs}
use Rattle.fl_ranges.specs.Inside.LockRows.{row_marks}
use Rattle.fl_ranges.proofs.table.Table.stroke.Goals as goal
use Rattle.fl_ranges.proofs.table.Table.stroke.Goals.{in-Ok, in-Err}

pub returns-clause-full : goal.returns-clause-full
returns-clause-full c =
    let s = stroke_on c.args.key.now c.args.range.now c.args.mark in
    let inside = c.self.inside.rows in
    let seen : limit_of inside < runs (stroked s (row_marks inside)) → c.args.self.now.limit < runs (stroked s c.args.self.now.marking) =
    λ over. subst (λ (t : LockTable). t.limit < runs (stroked s t.marking)) c.self.view_is
    (subst (λ (n : ℕ). n < runs (stroked s (row_marks inside))) c.self.invariant.room over) in
    let unseen : c.args.self.now.limit < runs (stroked s c.args.self.now.marking) → limit_of inside < runs (stroked s (row_marks inside)) =
    λ over. subst (λ (n : ℕ). n < runs (stroked s (row_marks inside))) (sym c.self.invariant.room)
    (subst (λ (t : LockTable). t.limit < runs (stroked s t.marking)) (sym c.self.view_is) over) in
    elim c.match-stroke.branch [
      | in-Ok w ↦ (
        λ e. absurd (cc (sym (subst IsErr w.result-is e))),
        λ over. absurd (cc (sym (subst IsErr w.in-Ok.is (c.stroke.ensures.full.1 (unseen over))))),
      )
      | in-Err w ↦ (
        λ e. seen (c.stroke.ensures.full.0 (subst IsErr (sym w.in-Err.is) refl)),
        λ over. subst IsErr (sym w.result-is) refl,
      )
    ]
