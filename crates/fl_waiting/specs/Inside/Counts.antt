-- What is kept beside the parked requests, so that most orders needn't walk along them.
use Rattle.std.specs.Prelude.{◌≡◌, ℕ, ◌+◌, ◌%◌, ◌==◌, ◌≤◌, ◌<◌, List, [], ◌∷◌, slice_index_or, if◌then◌else◌}
use Rattle.std.specs.List.{AllByRecursion}
use Rattle.fl_waiting.specs.declared.parked.Request.{Request}

-- no request has a greater unique
abbrev pub AreUpTo : ℕ → List Request → Type 0
AreUpTo greatest parked = AllByRecursion (λ (r : Request). r.unique ≤ greatest) parked

-- 1 if the request is on a node whose number has this remainder, else 0
abbrev pub counts_in : ℕ → Request → ℕ
counts_in bucket r = if r.node % 256 == bucket then 1 else 0

abbrev pub how_many : ℕ → List Request → ℕ
how_many bucket [] = 0
how_many bucket (r ∷ parked) = counts_in bucket r + how_many bucket parked

-- the counts say for each remainder how many there are
abbrev pub AreCounted : List ℕ → List Request → Type 0
AreCounted counts parked = (bucket : ℕ) → bucket < 256 → slice_index_or counts bucket 0 ≡ how_many bucket parked
