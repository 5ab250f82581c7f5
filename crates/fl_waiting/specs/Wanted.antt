-- Locks that are wanted, as they are copied for a search.
use Rattle.std.specs.Prelude.{◌≡◌, ℕ, suc, List, [], ◌∷◌}
use Rattle.fl_waiting.specs.Waiting.{Wish}
use Rattle.fl_waiting.specs.declared.wanted.Wanted.{Wanted}

-- what a lock that is wanted means
abbrev pub meant : Wanted → Wish
meant w = record { key = w.key; start = w.range.start; end = w.range.end; kind = w.kind }

-- they are numbered from this number on
abbrev pub AreNumbered : ℕ → List Wanted → Type 0
AreNumbered n [] = Unit {0}
AreNumbered n (w ∷ ws) = (w.place ≡ n) × AreNumbered (suc n) ws
