-- How the lock that is named is found among runs.
use Rattle.std.specs.Prelude.{ℕ, max, Bool, ◌&&◌, ◌||◌, ◌==◌, nat_lt, Option, Some, None, List, [], ◌∷◌, if◌then◌else◌}
use Rattle.fl_marks.specs.declared.lock.Key.{Key}
use Rattle.fl_marks.specs.declared.lock.Kind.{Kind}
use Rattle.fl_marks.specs.declared.held.Held.{Held}
use Rattle.fl_marks.specs.declared.run.Run.{Run}
use Rattle.fl_ranges.specs.Inside.RunList.{run_conflicts}

-- the run's first byte in a range that begins there is less than the other's, or is the same, and the run's owner
-- is less
abbrev pub is_nearer : ℕ → Run → Run → Bool
is_nearer start r s =
    nat_lt (max r.start start) (max s.start start)
    || ((max r.start start == max s.start start) && nat_lt r.key.owner s.key.owner)

-- the nearer one of two runs, or the second if there is no first
abbrev pub nearer_of : ℕ → Option Run → Run → Run
nearer_of start None r = r
nearer_of start (Some best) r = if is_nearer start r best then r else best

-- the nearest run so far, once one more run has been looked at
abbrev pub nearest_with : Key → ℕ → ℕ → Kind → Option Run → Run → Option Run
nearest_with key start end kind best r =
    if run_conflicts key start end kind r then Some (nearer_of start best r) else best

-- the nearest of the runs that conflict with the lock, and of the nearest so far
abbrev pub nearest_from : Key → ℕ → ℕ → Kind → Option Run → List Run → Option Run
nearest_from key start end kind best [] = best
nearest_from key start end kind best (r ∷ rs) =
    nearest_from key start end kind (nearest_with key start end kind best r) rs

-- the lock of a run
abbrev pub lock_of : Run → Held
lock_of r = record { owner = r.key.owner; start = r.start; end = r.end; mark = r.mark }
