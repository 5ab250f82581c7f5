-- How locks are kept: as runs, each a row of bytes of one key with one mark.
use Rattle.std.specs.Prelude.{◌≡◌, ◌≢◌, ℕ, ◌-◌, ◌≤◌, Bool, true, ◌&&◌, nat_le, Option, Some, None, List, [], ◌∷◌}
use Rattle.std.specs.List.{find, AllByRecursion}
use Rattle.std.specs.Option.{option_map}
use Rattle.fl_marks.specs.declared.lock.Key.{Key}
use Rattle.fl_marks.specs.declared.lock.Kind.{Kind}
use Rattle.fl_marks.specs.declared.lock.Mark.{Mark}
use Rattle.fl_marks.specs.declared.run.Run.{Run}
use Rattle.fl_marks.specs.Marking.{Spot, covers}
use Rattle.fl_marks.specs.Conflict.{are_of_two_owners, kinds_conflict}
use Rattle.fl_ranges.specs.Setting.{meant}

-- the run is of the spot's key, and has its byte
abbrev pub has_spot : Spot → Run → Bool
has_spot q r = covers (meant r) q

-- the first run that has a spot
abbrev pub run_at : List Run → Spot → Option Run
run_at rs q = find (has_spot q) rs

-- the mark that the runs give a spot
abbrev pub held_at : List Run → Spot → Option Mark
held_at rs q = option_map (λ r. r.mark) (run_at rs q)

-- each run has a byte, and no later one has a spot of it
abbrev pub AreApart : List Run → Type 0
AreApart [] = Unit {0}
AreApart (r ∷ rs) = (r.start ≤ r.end) × ((q : Spot) → has_spot q r ≡ true → run_at rs q ≡ None) × AreApart rs

-- under these marks the run ends in the range of bytes, and its mark doesn't stand before its start
pub record IsWhole (held : Spot → Option Mark) (r : Run) : Type 0 where
  pub in_range : r.end ≤ 9223372036854775807
  pub first : r.start ≢ 0 → held (r.key, r.start - 1) ≢ Some r.mark

-- the runs are apart, and each is as long as it can be
pub record AreRuns (rs : List Run) : Type 0 where
  pub apart : AreApart rs
  pub whole : AllByRecursion (IsWhole (held_at rs)) rs

-- a run conflicts with a lock of this kind, by this key, on the bytes from start to end
abbrev pub run_conflicts : Key → ℕ → ℕ → Kind → Run → Bool
run_conflicts key start end kind r =
    are_of_two_owners key r.key && ((nat_le r.start end && nat_le start r.end) && kinds_conflict kind r.mark.kind)
