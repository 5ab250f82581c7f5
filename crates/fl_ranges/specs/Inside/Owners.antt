-- How the owners that conflict with a lock are found among runs.
use Rattle.std.specs.Prelude.{ℕ, Bool, true, ◌&&◌, ◌==◌, nat_lt, Option, Some, None, List, [], ◌∷◌, if◌then◌else◌}
use Rattle.fl_marks.specs.declared.lock.Key.{Key}
use Rattle.fl_marks.specs.declared.lock.Kind.{Kind}
use Rattle.fl_marks.specs.declared.run.Run.{Run}
use Rattle.fl_ranges.specs.Inside.RunList.{run_conflicts}

-- an owner is greater than the one that is given
abbrev pub is_after : Option ℕ → ℕ → Bool
is_after None owner = true
is_after (Some given) owner = nat_lt given owner

-- an owner is less than the least so far
abbrev pub is_less : Option ℕ → ℕ → Bool
is_less None owner = true
is_less (Some least) owner = nat_lt owner least

-- the least owner so far, once one more run has been looked at
abbrev pub least_with : Key → ℕ → ℕ → Kind → Option ℕ → Option ℕ → Run → Option ℕ
least_with key start end kind after least r =
    if run_conflicts key start end kind r && (is_after after r.key.owner && is_less least r.key.owner)
    then Some r.key.owner else least

-- the least of the owners of the runs that conflict with the lock, and of the least so far
abbrev pub least_from : Key → ℕ → ℕ → Kind → Option ℕ → Option ℕ → List Run → Option ℕ
least_from key start end kind after least [] = least
least_from key start end kind after least (r ∷ rs) =
    least_from key start end kind after (least_with key start end kind after least r) rs

-- a run of this owner conflicts with a lock of this kind, by this key, on the bytes from start to end
abbrev pub run_conflicts_by : Key → ℕ → ℕ → Kind → ℕ → Run → Bool
run_conflicts_by key start end kind owner r = (r.key.owner == owner) && run_conflicts key start end kind r
