-- A conflict that the runs show is a conflict of the marking that they mean.
use Rattle.std.proofs.Common.{◌≡◌, ℕ, ◌≤◌, Bool, true, false, cond, ◌&&◌, ◌||◌, nat_le, Some, List, [], ◌∷◌, map, refl}
use Rattle.std.proofs.Common.{ap, sym, ◌∙◌, arith}
use Rattle.std.proofs.lemmas.Bool.Decides.{nat_tests}
use Rattle.std.specs.List.{list_any, find, AllByRecursion}
use Rattle.std.specs.Cmp.{both_ways}
use Rattle.std.specs.FinMap.{entries}
use Rattle.std.proofs.lemmas.Bool.{or_left, or_right, and_from}
use Rattle.fl_marks.specs.declared.lock.Kind.{Kind}
use Rattle.fl_marks.specs.declared.lock.Key.{Key}
use Rattle.fl_marks.specs.declared.lock.Mark.{Mark}
use Rattle.fl_marks.specs.declared.run.Run.{Run}
use Rattle.fl_marks.specs.Marking.{Spot, marking_of}
use Rattle.fl_marks.specs.Conflict.{are_of_two_owners, kinds_conflict, mark_conflicts}
use Rattle.fl_ranges.specs.Inside.RunList.{has_spot, run_at, AreApart, run_conflicts}
use Rattle.fl_ranges.specs.Setting.{meant}
use Rattle.fl_ranges.proofs.Markings.{spots_total, exact_spots}
use Rattle.fl_ranges.proofs.Entries.{any_entry, entry_passes}
use Rattle.fl_ranges.proofs.RunLists.{at_spot, spot_of, run_has, each_found, each_ordered}
use Rattle.fl_ranges.proofs.Counting.{get-runs, held_by, held_of}
use Rattle.fl_ranges.proofs.Each.{all_both}

-- a byte that two ranges share
record Shared (from to start end : ℕ) : Type 0 where
  pub byte : ℕ
  pub after_from : from ≤ byte
  pub before_to : byte ≤ to
  pub after_start : start ≤ byte
  pub before_end : byte ≤ end

shared : (from to start end : ℕ) → from ≤ to → start ≤ end → from ≤ end → start ≤ to → Shared from to start end
shared from to start end a b c d = go (nat_le from start) refl
  where
    go : (t : Bool) → nat_le from start ≡ t → Shared from to start end
    go true is = record { byte = start; after_from = grind (arith, nat_tests); before_to = d; after_start = omega arith; before_end = b }
    go false is = record { byte = from; after_from = omega arith; before_to = a; after_start = grind (arith, nat_tests); before_end = c }

-- the parts of a test for a conflict
record Passes (r x : Bool) (from to start end : ℕ) : Type 0 where
  pub contenders : r ≡ true
  pub kinds : x ≡ true
  pub begins : from ≤ end
  pub ends : start ≤ to

passes : (r x : Bool) (from to start end : ℕ) → (r && ((nat_le from end && nat_le start to) && x)) ≡ true → Passes r x from to start end
passes true true from to start end e = record { contenders = refl; kinds = refl; begins = grind (arith, nat_tests); ends = grind (arith, nat_tests) }
passes true false from to start end e = absurd (none (nat_le from end && nat_le start to) e)
  where
    none : (b : Bool) → (b && false) ≡ true → ⊥
    none true h = absurd (cc h)
    none false h = absurd (cc h)
passes false x from to start end e = absurd (cc e)

all_pass : (r x : Bool) (from to start end : ℕ) → r ≡ true → x ≡ true → from ≤ end → start ≤ to → (r && ((nat_le from end && nat_le start to) && x)) ≡ true
all_pass true true from to start end contenders kinds begins ends = grind (arith, nat_tests)
all_pass true false from to start end contenders kinds begins ends = absurd (cc kinds)
all_pass false x from to start end contenders kinds begins ends = absurd (cc contenders)

-- a run that passes a test
record Passing (P : Run → Type 0) (t : Run → Bool) : Type 0 where
  pub run : Run
  pub own : P run
  pub test : t run ≡ true

some_passing : (P : Run → Type 0) (t : Run → Bool) (rs : List Run) → AllByRecursion P rs → list_any t rs ≡ true → Passing P t
some_passing P t [] all any = absurd (cc any)
some_passing P t (r ∷ rs) all any = go (some_passing P t rs all.1) (t r) refl any
  where
    go : (list_any t rs ≡ true → Passing P t) → (b : Bool) → t r ≡ b → (b || list_any t rs) ≡ true → Passing P t
    go rest true is h = record { run = r; own = all.0; test = is }
    go rest false is h = rest h

any_of_found : (t u : Run → Bool) (rs : List Run) (r : Run) → find u rs ≡ Some r → t r ≡ true → list_any t rs ≡ true
any_of_found t u [] r found is = absurd (cc found)
any_of_found t u (x ∷ rs) r found is = go (λ h. any_of_found t u rs r h is) (u x) found
  where
    go : (find u rs ≡ Some r → list_any t rs ≡ true) → (b : Bool) → cond b (Some x) (find u rs) ≡ Some r → (t x || list_any t rs) ≡ true
    go rest true h = let same : x ≡ r = cc h in or_left _ _ (ap t same ∙ is)
    go rest false h = or_right _ _ (rest h)

-- a test of the owner, and the test for a conflict
first_passes : (a b : Bool) → (a && b) ≡ true → a ≡ true
first_passes true b e = refl
first_passes false b e = absurd (cc e)

second_passes : (a b : Bool) → (a && b) ≡ true → b ≡ true
second_passes true b e = e
second_passes false b e = absurd (cc e)

-- Conflicts with the owners that pass a test; each does for those with any owner.
module _ (by : ℕ → Bool) (key : Key) (start end : ℕ) (kind : Kind) where
  abbrev spot_conflicts : (Spot × Mark) → Bool
  spot_conflicts e = by e.0.0.owner && mark_conflicts key start end kind e

  abbrev conflicts_so : Run → Bool
  conflicts_so r = by r.key.owner && run_conflicts key start end kind r

  run_shows : (rs : List Run) (r : Run) (byte : ℕ) → run_at rs (r.key, byte) ≡ Some r → by r.key.owner ≡ true → are_of_two_owners key r.key ≡ true →
      kinds_conflict kind r.mark.kind ≡ true → start ≤ byte → byte ≤ end → list_any spot_conflicts (entries (marking_of (map meant rs))) ≡ true
  run_shows rs r byte found own contenders kinds from upto =
      entry_passes spots_total exact_spots spot_conflicts (marking_of (map meant rs)) (r.key, byte) r.mark
      (get-runs rs (r.key, byte) ∙ held_of rs (r.key, byte) r found)
      (and_from _ _ own (all_pass (are_of_two_owners key r.key) (kinds_conflict kind r.mark.kind) start end byte byte contenders kinds from upto))

  -- runs that are apart show a conflict exactly if their marking has one
  pub runs_conflict : (rs : List Run) → start ≤ end → AreApart rs → list_any conflicts_so rs ≡ list_any spot_conflicts (entries (marking_of (map meant rs)))
  runs_conflict rs range apart = both_ways _ _
      (λ any.
      let p = some_passing (λ r. (r.start ≤ r.end) × ((q : Spot) → has_spot q r ≡ true → run_at rs q ≡ Some r)) conflicts_so rs
      (all_both (λ r. r.start ≤ r.end) (λ r. (q : Spot) → has_spot q r ≡ true → run_at rs q ≡ Some r) rs (each_ordered rs apart) (each_found rs apart)) any in
      let w = passes (are_of_two_owners key p.run.key) (kinds_conflict kind p.run.mark.kind) p.run.start p.run.end start end (second_passes (by p.run.key.owner) _ p.test) in
      let b = shared p.run.start p.run.end start end p.own.0 range w.begins w.ends in
      run_shows rs p.run b.byte (p.own.1 (p.run.key, b.byte) (spot_of p.run (p.run.key, b.byte) refl b.after_from b.before_to))
      (first_passes (by p.run.key.owner) _ p.test) w.contenders w.kinds b.after_start b.before_end)
      (λ any.
      let e = any_entry spots_total spot_conflicts (marking_of (map meant rs)) any in
      let h = held_by rs e.0 e.1 (sym (get-runs rs e.0) ∙ e.2) in
      let at = at_spot h.run e.0 (run_has rs e.0 h.run h.found) in
      let t = passes (are_of_two_owners key e.0.0) (kinds_conflict kind e.1.kind) start end e.0.1 e.0.1 (second_passes (by e.0.0.owner) _ e.3) in
      any_of_found conflicts_so (has_spot e.0) rs h.run h.found
      (and_from _ _ (ap (λ (k : Key). by k.owner) at.key ∙ first_passes (by e.0.0.owner) _ e.3)
      (all_pass (are_of_two_owners key h.run.key) (kinds_conflict kind h.run.mark.kind) h.run.start h.run.end start end
      (ap (are_of_two_owners key) at.key ∙ t.contenders)
      (ap (λ (m : Mark). kinds_conflict kind m.kind) h.mark_is ∙ t.kinds)
      (omega (arith, at.from, t.ends))
      (omega (arith, at.upto, t.begins)))))
