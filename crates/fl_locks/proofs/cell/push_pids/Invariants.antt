use Rattle.std.proofs.Common.{◌≡◌, ◌∷◌, ◌++◌, take, string_bytes}
use Rattle.std.specs.List.{flat_map}
use Rattle.std.specs.Fmt.{decimal}
use Rattle.fl_locks.proofs.cell.push_pids.Given as goal

-- the pids so far are written
abbrev pub invariant-loop-blocker : goal.invariant-loop-blocker
invariant-loop-blocker l = string_bytes l.text ≡ string_bytes l.initial.text ++ flat_map (λ b. 44 ∷ decimal b.pid) (take l.blocker-index l.others)
