use Rattle.std.proofs.Common.{◌≡◌, ◌∷◌, ◌++◌, take, string_bytes}
use Rattle.std.specs.List.{flat_map}
use Rattle.fl_locks.specs.Json.{blocker_json}
use Rattle.fl_locks.proofs.json.push_blockers.Given as goal

-- the objects so far are written
abbrev pub invariant-loop-blocker : goal.invariant-loop-blocker
invariant-loop-blocker l = string_bytes l.text ≡ string_bytes l.initial.text ++ flat_map (λ b. 44 ∷ blocker_json b) (take l.blocker-index l.others)
