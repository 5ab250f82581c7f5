use Rattle.std.proofs.Common.{◌≡◌, take}
use Rattle.std.specs.List.{flat_map}
use Rattle.fl_spans.specs.Rows.{row_lists}
use Rattle.fl_ranges.specs.Layout.{runs_in}
use Rattle.fl_ranges.proofs.held_runs.all_runs.Given as goal

abbrev pub invariant-loop-chain : goal.invariant-loop-chain
invariant-loop-chain l = l.runs.items ≡ flat_map runs_in (take l.chain (row_lists l.table))
