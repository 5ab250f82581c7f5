-- On which chain of slots a lock stands.
use Rattle.std.specs.Prelude.{ℕ, ◌%◌, ◌==◌}
use Rattle.std.specs.FinMap.{retain_keys}
use Rattle.fl_marks.specs.Marking.{Marking}

-- of so many chains, the one of a node's runs
abbrev pub home : ℕ → ℕ → ℕ
home chains node = node % chains

-- the marking of the nodes whose runs stand on one of so many chains
abbrev pub on_chain : ℕ → ℕ → Marking → Marking
on_chain chains chain m = retain_keys m (λ spot. home chains spot.0.node == chain)
