use Rattle.std.proofs.Common.{◌≡◌, ◌-◌, Bool, ◌&&◌, length, drop}
use Rattle.std.specs.List.{find}
use Rattle.fl_arena.specs.Cursors.{Tests}
use Rattle.fl_spans.specs.Rows.{run_cursor}
use Rattle.fl_spans.specs.Row.{spans_at}
use Rattle.fl_spans.specs.Spans.{overlaps}
use Rattle.fl_spans.proofs.search.find.Given as goal

abbrev pub invariant-loop-span : goal.invariant-loop-span
invariant-loop-span g l = record {
  at : l.next ≡ run_cursor l.rows l.row.chain l.row.index l.next.index;
  rest : (p : g.row.M.Denot → Bool) → Tests g.F.Fn p l.test →
      find (λ s. overlaps l.start l.end s && p s.mark) (spans_at l.rows l.row)
      ≡ find (λ s. overlaps l.start l.end s && p s.mark) (drop l.next.index (spans_at l.rows l.row));
}

abbrev pub decreases-loop-span : goal.decreases-loop-span
decreases-loop-span g l = length (spans_at l.rows l.row) - l.next.index
