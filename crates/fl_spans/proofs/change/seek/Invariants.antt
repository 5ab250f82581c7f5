use Rattle.std.proofs.Common.{◌≡◌, ◌+◌, ◌-◌, length, drop}
use Rattle.std.specs.List.{position_or_len}
use Rattle.fl_spans.specs.Rows.{run_cursor}
use Rattle.fl_spans.specs.Row.{spans_at}
use Rattle.fl_spans.specs.Inside.Walk.{reaches}
use Rattle.fl_spans.proofs.change.seek.Given as goal

abbrev pub invariant-loop-span : goal.invariant-loop-span
invariant-loop-span g l = record {
  at : l.at ≡ run_cursor l.rows l.row.chain l.row.index l.at.index;
  first : position_or_len (reaches g.M.PartialEq.eq l.start l.mark) (spans_at l.rows l.row)
      ≡ l.at.index + position_or_len (reaches g.M.PartialEq.eq l.start l.mark) (drop l.at.index (spans_at l.rows l.row));
}

abbrev pub decreases-loop-span : goal.decreases-loop-span
decreases-loop-span g l = length (spans_at l.rows l.row) - l.at.index
