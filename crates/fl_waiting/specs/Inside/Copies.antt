-- How one more lock that is wanted is copied.
use Rattle.std.specs.Prelude.{ℕ, Option, Some, None, List, [], ◌∷◌}
use Rattle.fl_waiting.specs.declared.wanted.Wanted.{Wanted}

abbrev pub numbered : ℕ → Wanted → Wanted
numbered n w = record w { place = n }

-- as a list
abbrev pub one_of : Option Wanted → List Wanted
one_of None = []
one_of (Some w) = w ∷ []
