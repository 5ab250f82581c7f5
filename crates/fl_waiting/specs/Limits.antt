-- How many runs of locked bytes, parked requests, files and open files rules may allow.
use Rattle.std.specs.Prelude.{ℕ, ◌≤◌}

-- at least one run, and at most 65536
abbrev pub AllowsRuns : ℕ → Type 0
AllowsRuns runs = (1 ≤ runs) × (runs ≤ 65536)

-- at least one parked request, and at most 1024
abbrev pub AllowsParked : ℕ → Type 0
AllowsParked parked = (1 ≤ parked) × (parked ≤ 1024)

-- at least one file, and at most 65536
abbrev pub AllowsFiles : ℕ → Type 0
AllowsFiles files = (1 ≤ files) × (files ≤ 65536)

-- at least one open file, and at most 65536
abbrev pub AllowsOpen : ℕ → Type 0
AllowsOpen files = (1 ≤ files) × (files ≤ 65536)
