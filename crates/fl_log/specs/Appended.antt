-- What contracts see of an author's appender, and which entries of a log are whose.
use Rattle.std.specs.Prelude.{◌≡◌, ◌≢◌, ℕ, ◌+◌, ◌≤◌, ◌==◌, List, [], ◌∷◌, ◌++◌, length, if◌then◌else◌}
use Rattle.std.specs.List.{AllPairs}
use mathlib.Core.List.{IsPrefix}

-- Whose it is, how many entries were appended through it, and the log up to the last of them, or nothing before the
-- first.
pub record Appended (E : Type 0) : Type 0 where
  pub author : ℕ
  pub count : ℕ
  pub upto : List E

module _ {E : Type 0} where
  -- an author's appender through which nothing was appended
  abbrev pub unused : ℕ → Appended E
  unused author = record { author = author; count = 0; upto = [] }

  -- the entry, if it is this author's
  abbrev pub entry_by : (E → ℕ) → ℕ → E → List E
  entry_by author_of author e = if author_of e == author then e ∷ [] else []

  -- the entries of this author, in their order
  abbrev pub entries_by : (E → ℕ) → ℕ → List E → List E
  entries_by author_of author [] = []
  entries_by author_of author (e ∷ es) = entry_by author_of author e ++ entries_by author_of author es

  -- The entry stands at the end of the log, behind all that was appended by the same appender before, and is counted.
  pub record IsAppended (old : Appended E) (e : E) (new : Appended E) : Type 0 where
    pub before : List E
    pub had : IsPrefix old.upto before
    pub upto : new.upto ≡ before ++ e ∷ []
    pub author : new.author ≡ old.author
    pub count : new.count ≡ old.count + 1

  -- the log begins with what the appender saw of it, and has as many entries of its author at least as were appended
  pub record HasMost (author_of : E → ℕ) (log : List E) (it : Appended E) : Type 0 where
    pub had : IsPrefix it.upto log
    pub count : it.count ≤ length (entries_by author_of it.author log)

  -- the log begins with what the appender saw of it, and has as many entries of its author as were appended
  pub record HasAll (author_of : E → ℕ) (log : List E) (it : Appended E) : Type 0 where
    pub had : IsPrefix it.upto log
    pub count : length (entries_by author_of it.author log) ≡ it.count

  -- no two are of one author
  abbrev pub AreApart : List (Appended E) → Type 0
  AreApart appenders = AllPairs (λ (a b : Appended E). a.author ≢ b.author) appenders
