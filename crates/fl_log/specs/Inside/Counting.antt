-- What the word of a log has, and how it changes.
use Rattle.std.specs.Prelude.{ℕ, ◌≡◌, ◌==◌, true, List, [], ◌∷◌, ◌++◌, length, MatchBool}
use Rattle.logbook.specs.Pages.{Cell, Step, View, Book, Named}

module _ {E : Type 0} where
  -- the first word has the number of entries
  abbrev pub IsCounted : List Cell → List E → Type 0
  IsCounted cells log = cells ≡ (length log, true) ∷ (0, true) ∷ []

  -- The entry was added behind all that had been seen, if the word had its number. Else the whole log was seen, of the
  -- number that the word had.
  abbrev pub IsAdded : Step E → View E ℕ → ℕ → View E ℕ → Type 0
  IsAdded s before found after = MatchBool (found == s.old) (after.0 ≡ before.0 ++ s.ask ∷ []) (length after.0 ≡ found)

-- that word
abbrev pub counter_of : Book → Named
counter_of book = record { tracked = true; key = 0; book = book }
