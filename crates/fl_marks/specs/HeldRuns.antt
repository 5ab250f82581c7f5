-- The locks that are held, as runs in order: what a list of locks shows (lslocks(8)).
use Rattle.std.specs.Prelude.{◌≡◌, ℕ, ◌-◌, ◌≤◌, Bool, ◌&&◌, nat_le, List, map}
use Rattle.std.specs.List.{filter, list_any}
use Rattle.std.specs.Ordering.{nat_cmp, ordering_then}
use Rattle.std.specs.declared.cmp.Ordering.{Ordering}
use Rattle.std.specs.FinMap.{entries, from_entries}
use Rattle.fl_marks.specs.declared.lock.Key.{Key}
use Rattle.fl_marks.specs.declared.lock.Kind.{Kind}
use Rattle.fl_marks.specs.declared.lock.Mark.{Mark}
use Rattle.fl_marks.specs.declared.run.Run.{Run}
use Rattle.fl_marks.specs.Marking.{class_number, Spot, Marking}
use Rattle.fl_marks.specs.Conflict.{kinds_conflict, mark_conflicts, are_of_two_owners}
use Rattle.fl_marks.specs.Runs.{is_start}
use Rattle.fl_marks.specs.Blocker.{run_end}

-- spots by node, then class (record locks before whole-file locks), then byte, then owner
abbrev pub listing_cmp : Spot → Spot → Ordering
listing_cmp a b =
    ordering_then (nat_cmp a.0.node b.0.node)
    (ordering_then (nat_cmp (class_number a.0.class) (class_number b.0.class))
    (ordering_then (nat_cmp a.1 b.1) (nat_cmp a.0.owner b.0.owner)))

-- the marked spots at which runs start, in that order
abbrev pub starts_in_order : Marking → List (Spot × Mark)
starts_in_order m = entries (from_entries {R = listing_cmp} (filter (is_start m) (entries m)))

-- the run that starts at a marked spot, as long as it can be
abbrev pub run_from : Marking → (Spot × Mark) → Run
run_from m e = record {
  key = e.0.0;
  start = e.0.1;
  end = run_end m e.0.0 e.1 e.0.1 (9223372036854775807 - e.0.1);
  mark = e.1;
}

-- all runs of a marking, in the order of their starts
abbrev pub runs_in_order : Marking → List Run
runs_in_order m = map (run_from m) (starts_in_order m)

-- a run of an owner who passes a test conflicts with a lock of this kind, by this key, on the bytes from start to end
abbrev pub run_conflicts_with : (ℕ → Bool) → Key → ℕ → ℕ → Kind → Run → Bool
run_conflicts_with whose key start end kind r =
    whose r.key.owner
    && (are_of_two_owners key r.key
    && ((nat_le r.start end && nat_le start r.end) && kinds_conflict kind r.mark.kind))

-- of the same owners, some run conflicts with a lock exactly if some mark does
abbrev pub ConflictAsMarks : Marking → List Run → Type 0
ConflictAsMarks m runs =
    (whose : ℕ → Bool) (key : Key) (start end : ℕ) (kind : Kind) → start ≤ end
    → list_any (run_conflicts_with whose key start end kind) runs
    ≡ list_any (λ (e : Spot × Mark). whose e.0.0.owner && mark_conflicts key start end kind e) (entries m)
