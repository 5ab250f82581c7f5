use Rattle.std.proofs.Common.{◌≡◌, ◌≤◌, ◌<◌, ◌-◌, ◌||◌, ℕ, false, length, slice_index_or}
use Rattle.std.specs.List.{list_any}
use Rattle.fl_spans.specs.Rows.{chain_count, rows, IsRow}
use Rattle.fl_ranges.specs.Placing.{home}
use Rattle.fl_ranges.specs.Layout.{table_runs}
use Rattle.fl_ranges.specs.Inside.Owners.{run_conflicts_by}
use Rattle.fl_ranges.proofs.ContenderMarks.{conflicts_from}
use Rattle.fl_ranges.proofs.owners.find_among.Given as goal

abbrev pub invariant-loop-owner : goal.invariant-loop-owner
invariant-loop-owner l = record {
  row : IsRow l.table l.row;
  chain : l.row.chain ≡ home (chain_count l.table) l.key.node;
  within : l.place ≤ length l.owners;
  passed : (k : ℕ) → k < l.place →
      conflicts_from l.key l.range.start l.range.end l.kind (rows l.table (home (chain_count l.table) l.key.node)) l.row.index (slice_index_or l.owners k 0) ≡ false;
  rest : (k : ℕ) → k < length l.owners →
      (slice_index_or l.found k false
      || conflicts_from l.key l.range.start l.range.end l.kind (rows l.table (home (chain_count l.table) l.key.node)) l.row.index (slice_index_or l.owners k 0))
      ≡ (slice_index_or l.fn.found k false
      || list_any (run_conflicts_by l.key l.range.start l.range.end l.kind (slice_index_or l.owners k 0)) (table_runs l.table));
}

abbrev pub decreases-loop-owner : goal.decreases-loop-owner
decreases-loop-owner l = length (rows l.table (home (chain_count l.table) l.key.node)) - l.row.index
