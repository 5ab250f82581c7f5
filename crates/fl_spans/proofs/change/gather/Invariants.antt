use Rattle.std.proofs.Common.{◌≡◌, ◌≤◌, ◌+◌, ◌-◌, length, drop, None}
use Rattle.std.specs.List.{prefix_len}
use Rattle.fl_spans.specs.Rows.{run_cursor}
use Rattle.fl_spans.specs.Row.{spans_at}
use Rattle.fl_spans.specs.Inside.Walk.{begins_by, gathered}
use Rattle.fl_spans.proofs.change.gather.Given as goal

abbrev pub invariant-loop-span : goal.invariant-loop-span
invariant-loop-span g l = record {
  at : l.next ≡ run_cursor l.rows l.row.chain l.row.index l.next.index;
  from : l.at.index ≤ l.next.index;
  change : gathered g.M.PartialEq.eq l.start l.end l.mark (record { before = None; start = l.start; end = l.end; after = None })
      (drop l.at.index (spans_at l.rows l.row))
      ≡ gathered g.M.PartialEq.eq l.start l.end l.mark l.change (drop l.next.index (spans_at l.rows l.row));
  taken : l.at.index + prefix_len (begins_by g.M.PartialEq.eq l.end l.mark) (drop l.at.index (spans_at l.rows l.row))
      ≡ l.next.index + prefix_len (begins_by g.M.PartialEq.eq l.end l.mark) (drop l.next.index (spans_at l.rows l.row));
}

abbrev pub decreases-loop-span : goal.decreases-loop-span
decreases-loop-span g l = length (spans_at l.rows l.row) - l.next.index
