use Rattle.std.proofs.Common.{◌≡◌, ◌∷◌, ◌++◌, take, string_bytes}
use Rattle.std.specs.List.{flat_map}
use Rattle.fl_locks.specs.Json.{row_json}
use Rattle.fl_locks.proofs.json.push_rows.Given as goal

-- the rows so far are written
abbrev pub invariant-loop-row : goal.invariant-loop-row
invariant-loop-row l = string_bytes l.text ≡ string_bytes l.initial.text ++ flat_map (λ row. 44 ∷ row_json row) (take l.row-index l.others)
