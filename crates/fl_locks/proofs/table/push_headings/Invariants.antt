use Rattle.std.proofs.Common.{◌≡◌, ◌++◌, take, string_bytes}
use Rattle.std.specs.List.{flat_map}
use Rattle.fl_locks.specs.Cells.{heading}
use Rattle.fl_locks.specs.Table.{inner_text}
use Rattle.fl_locks.proofs.table.push_headings.Given as goal

-- the headings so far are written
abbrev pub invariant-loop-sized : goal.invariant-loop-sized
invariant-loop-sized l = string_bytes l.text ≡ string_bytes l.initial.text ++ flat_map (inner_text heading) (take l.sized-index l.columns)
