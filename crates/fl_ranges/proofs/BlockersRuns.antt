-- The lock that is named, found among the runs that a marking is kept as.
use Rattle.std.proofs.Common.{◌≡◌, ◌≢◌, ℕ, ◌+◌, ◌-◌, ◌≤◌, max, Bool, true, false, cond, not, ◌&&◌, ◌||◌, ◌==◌, nat_lt}
use Rattle.std.proofs.Common.{nat_le, Option, Some, None, option_map}
use Rattle.std.proofs.Common.{List, [], ◌∷◌, ◌++◌, map, refl, ap, sym, ◌∙◌, subst, arith}
use Rattle.std.proofs.lemmas.Bool.Decides.{nat_tests}
use Rattle.std.specs.List.{AllByRecursion}
use Rattle.std.specs.FinMap.{get}
use Rattle.fl_marks.specs.declared.lock.Key.{Key}
use Rattle.fl_marks.specs.declared.lock.Kind.{Kind}
use Rattle.fl_marks.specs.declared.lock.Mark.{Mark}
use Rattle.fl_marks.specs.declared.held.Held.{Held}
use Rattle.fl_marks.specs.declared.run.Run.{Run}
use Rattle.fl_marks.specs.Marking.{class_number, Spot, marking_of}
use Rattle.fl_marks.specs.Conflict.{kinds_conflict}
use Rattle.fl_marks.specs.Blocker.{of_owner, IsConflicting, IsRunAt, IsBlocker, blocker}
use Rattle.fl_ranges.specs.Inside.RunList.{has_spot, run_at, held_at, IsWhole, AreRuns, run_conflicts}
use Rattle.fl_ranges.specs.Setting.{meant}
use Rattle.fl_ranges.specs.Inside.Nearest.{is_nearer, nearer_of, nearest_with, nearest_from, lock_of}
use Rattle.fl_ranges.proofs.RunLists.{IsAt, at_spot, spot_of, each_at, each_found, each_ordered, run_has, same_run}
use Rattle.fl_ranges.proofs.Counting.{Held as HeldBy, get-runs, held_by, held_of}
use Rattle.fl_ranges.proofs.Blockers.{named_words}
use Rattle.fl_ranges.proofs.Markings.{same_class}
use Rattle.fl_ranges.proofs.Spots.{and_and_false}
use Rattle.fl_ranges.proofs.Each.{all_both, all_weaker}

-- ---- the tests, as facts

pub record ConflictingParts (a b n o p q start end from to : ℕ) (x : Bool) : Type 0 where
  pub class : a ≡ b
  pub node : n ≡ o
  pub other : p ≢ q
  pub begins : from ≤ end
  pub ends : start ≤ to
  pub write : x ≡ true

pub conflicting_parts : (a b n o p q start end from to : ℕ) (x : Bool) →
    (((a == b) && ((n == o) && not (p == q))) && ((nat_le from end && nat_le start to) && x)) ≡ true → ConflictingParts a b n o p q start end from to x
conflicting_parts a b n o p q start end from to true e = record {
  class = grind (arith, nat_tests);
  node = grind (arith, nat_tests);
  other = grind (arith, nat_tests);
  begins = grind (arith, nat_tests);
  ends = grind (arith, nat_tests);
  write = refl;
}
conflicting_parts a b n o p q start end from to false e = absurd (and_and_false ((a == b) && ((n == o) && not (p == q))) (nat_le from end && nat_le start to) e)

pub conflicting_all : (a b n o p q start end from to : ℕ) (x : Bool) → a ≡ b → n ≡ o → (p ≢ q) → from ≤ end → start ≤ to → x ≡ true →
    (((a == b) && ((n == o) && not (p == q))) && ((nat_le from end && nat_le start to) && x)) ≡ true
conflicting_all a b n o p q start end from to true class node other begins ends write = grind (arith, nat_tests)
conflicting_all a b n o p q start end from to false class node other begins ends write = absurd (cc write)

not_nearer_itself : (x p : ℕ) → (nat_lt x x || ((x == x) && nat_lt p p)) ≡ false
not_nearer_itself x p = grind (arith, nat_tests)

not_nearer_back : (x y p q : ℕ) → (nat_lt x y || ((x == y) && nat_lt p q)) ≡ true → (nat_lt y x || ((y == x) && nat_lt q p)) ≡ false
not_nearer_back x y p q e = grind (arith, nat_tests)

-- neither is nearer than the next, so the first isn't nearer than the last
not_nearer_through : (x y z p q r : ℕ) → (nat_lt x y || ((x == y) && nat_lt p q)) ≡ false → (nat_lt y z || ((y == z) && nat_lt q r)) ≡ false →
    (nat_lt x z || ((x == z) && nat_lt p r)) ≡ false
not_nearer_through x y z p q r e f = grind (arith, nat_tests)

record NotNearer (x y p q : ℕ) : Type 0 where
  pub place : y ≤ x
  pub owner : x ≡ y → q ≤ p

not_nearer : (x y p q : ℕ) → (nat_lt x y || ((x == y) && nat_lt p q)) ≡ false → NotNearer x y p q
not_nearer x y p q e = record { place = grind (arith, nat_tests); owner = λ same. grind (arith, nat_tests) }

-- what is known of each run of a list
pub record IsListed (rs : List Run) (r : Run) : Type 0 where
  pub found : (q : Spot) → has_spot q r ≡ true → run_at rs q ≡ Some r
  pub ordered : r.start ≤ r.end
  pub whole : IsWhole (held_at rs) r

-- ---- the row of a run

module _ (rs : List Run) (good : AreRuns rs) where
  pub run_row : (r : Run) (byte : ℕ) → r.start ≤ byte → byte ≤ r.end → ((q : Spot) → has_spot q r ≡ true → run_at rs q ≡ Some r) → IsWhole (held_at rs) r →
      IsRunAt (marking_of (map meant rs)) r.key r.mark byte r.start r.end
  run_row r byte from upto found whole = record {
    from = from;
    upto = upto;
    bounded = whole.in_range;
    each = marked;
    first = λ b next same.
        let place : r.start - 1 ≡ b = omega arith in
        whole.first (λ zero_is. absurd (omega arith)) (ap (λ n. held_at rs (r.key, n)) place ∙ sym (get-runs rs (r.key, b)) ∙ same);
    last = λ below same. after (held_by rs (r.key, r.end + 1) r.mark (sym (get-runs rs (r.key, r.end + 1)) ∙ same));
  }
    where
      held : (b : ℕ) → r.start ≤ b → b ≤ r.end → held_at rs (r.key, b) ≡ Some r.mark
      held b from upto = held_of rs (r.key, b) r (found (r.key, b) (spot_of r (r.key, b) refl from upto))

      marked : (b : ℕ) → r.start ≤ b → b ≤ r.end → get (marking_of (map meant rs)) (r.key, b) ≡ Some r.mark
      marked b from upto = get-runs rs (r.key, b) ∙ held b from upto

      after : HeldBy rs (r.key, r.end + 1) r.mark → ⊥
      after h = go (nat_lt h.run.start (r.end + 1)) refl
        where
          at : IsAt h.run (r.key, r.end + 1)
          at = at_spot h.run (r.key, r.end + 1) (run_has rs (r.key, r.end + 1) h.run h.found)

          go : (t : Bool) → nat_lt h.run.start (r.end + 1) ≡ t → ⊥
          go true is =
              let begins : h.run.start ≤ r.end = grind (arith, nat_tests) in
              let ends = at.upto in
              let one = same_run rs good.apart (r.key, r.end + 1) (r.key, r.end) h.run h.found (spot_of h.run (r.key, r.end) at.key begins (omega arith)) in
              let other = found (r.key, r.end) (spot_of r (r.key, r.end) refl (omega arith) (omega arith)) in
              let same : h.run ≡ r = cc (sym one ∙ other) in
              let over : r.end + 1 ≤ r.end = subst (λ (y : Run). r.end + 1 ≤ y.end) same ends in
              absurd (omega arith)
          go false is =
              let begins = at.from in
              let place : h.run.start - 1 ≡ r.end = grind (arith, nat_tests) in
              let w = each_at (IsWhole (held_at rs)) rs (has_spot (r.key, r.end + 1)) h.run good.whole h.found in
              w.first (λ zero_is. absurd (grind (arith, nat_tests)))
              ((λ i. held_at rs (at.key i, place i)) ∙ held r.end (omega arith) (omega arith) ∙ ap Some (sym h.mark_is))

  pub each_listed : AllByRecursion (IsListed rs) rs
  each_listed =
      all_weaker (λ r. ((q : Spot) → has_spot q r ≡ true → run_at rs q ≡ Some r) × ((r.start ≤ r.end) × IsWhole (held_at rs) r)) (IsListed rs)
      (λ r f. record { found = f.0; ordered = f.1.0; whole = f.1.1 }) rs
      (all_both (λ r. (q : Spot) → has_spot q r ≡ true → run_at rs q ≡ Some r) (λ r. (r.start ≤ r.end) × IsWhole (held_at rs) r) rs
      (each_found rs good.apart)
      (all_both (λ r. r.start ≤ r.end) (IsWhole (held_at rs)) rs (each_ordered rs good.apart) good.whole))

module _ (key : Key) (start end : ℕ) (kind : Kind) where
  -- ---- what is found among runs

  record IsNearest (best : Option Run) (rs : List Run) (r : Run) : Type 0 where
    pub than_best : (b : Run) → best ≡ Some b → is_nearer start b r ≡ false
    pub than_each : AllByRecursion (λ (s : Run). run_conflicts key start end kind s ≡ true → is_nearer start s r ≡ false) rs

  through : (r s t : Run) → is_nearer start r s ≡ false → is_nearer start s t ≡ false → is_nearer start r t ≡ false
  through r s t e f = not_nearer_through (max r.start start) (max s.start start) (max t.start start) r.key.owner s.key.owner t.key.owner e f

  -- if the nearer of two isn't nearer than a third, neither is
  passed_by : (best : Option Run) (x r : Run) → is_nearer start (nearer_of start best x) r ≡ false →
      ((b : Run) → best ≡ Some b → is_nearer start b r ≡ false) × (is_nearer start x r ≡ false)
  passed_by None x r h = (λ b e. absurd (cc e), h)
  passed_by (Some a) x r h = go (is_nearer start x a) refl h
    where
      go : (c : Bool) → is_nearer start x a ≡ c → is_nearer start (cond c x a) r ≡ false →
          ((b : Run) → Some a ≡ Some b → is_nearer start b r ≡ false) × (is_nearer start x r ≡ false)
      go true is h =
          let back = not_nearer_back (max x.start start) (max a.start start) x.key.owner a.key.owner is in
          (λ b e. let same : a ≡ b = cc e in subst (λ (y : Run). is_nearer start y r ≡ false) same (through a x r back h), h)
      go false is h = (λ b e. let same : a ≡ b = cc e in subst (λ (y : Run). is_nearer start y r ≡ false) same h, through x a r is h)

  nearest_is : (rs : List Run) (best : Option Run) (r : Run) → nearest_from key start end kind best rs ≡ Some r → IsNearest best rs r
  nearest_is [] best r e = record {
    than_best = λ b is.
        let same : r ≡ b = cc (sym e ∙ is) in
        subst (λ (y : Run). is_nearer start y r ≡ false) same (not_nearer_itself (max r.start start) r.key.owner);
    than_each = tt;
  }
  nearest_is (x ∷ xs) best r e = go (run_conflicts key start end kind x) refl (nearest_is xs (nearest_with key start end kind best x) r e)
    where
      go : (t : Bool) → run_conflicts key start end kind x ≡ t → IsNearest (cond t (Some (nearer_of start best x)) best) xs r → IsNearest best (x ∷ xs) r
      go true is n =
          let both = passed_by best x r (n.than_best (nearer_of start best x) refl) in
          record { than_best = both.0; than_each = (λ h. both.1, n.than_each) }
      go false is n = record { than_best = n.than_best; than_each = (λ h. absurd (cc (sym is ∙ h)), n.than_each) }

  nearest_among : (Q : Run → Type 0) (rs : List Run) (best : Option Run) (r : Run) → ((b : Run) → best ≡ Some b → Q b) →
      AllByRecursion (λ (s : Run). run_conflicts key start end kind s ≡ true → Q s) rs → nearest_from key start end kind best rs ≡ Some r → Q r
  nearest_among Q [] best r of_best each e = of_best r e
  nearest_among Q (x ∷ xs) best r of_best each e =
      nearest_among Q xs (nearest_with key start end kind best x) r (λ b. go (run_conflicts key start end kind x) refl b) each.1 e
    where
      of_nearer : (o : Option Run) → ((b : Run) → o ≡ Some b → Q b) → Q x → Q (nearer_of start o x)
      of_nearer None of_o q = q
      of_nearer (Some a) of_o q = pick (is_nearer start x a)
        where
          pick : (c : Bool) → Q (cond c x a)
          pick true = q
          pick false = of_o a refl

      go : (t : Bool) → run_conflicts key start end kind x ≡ t → (b : Run) → cond t (Some (nearer_of start best x)) best ≡ Some b → Q b
      go true is b h = let same : nearer_of start best x ≡ b = cc h in subst Q same (of_nearer best of_best (each.0 is))
      go false is b h = of_best b h

  record NoneConflicts (best : Option Run) (rs : List Run) : Type 0 where
    pub no_best : best ≡ None
    pub each : AllByRecursion (λ (s : Run). run_conflicts key start end kind s ≡ false) rs

  none_nearest : (rs : List Run) (best : Option Run) → nearest_from key start end kind best rs ≡ None → NoneConflicts best rs
  none_nearest [] best e = record { no_best = e; each = tt }
  none_nearest (x ∷ xs) best e = go (run_conflicts key start end kind x) refl (none_nearest xs (nearest_with key start end kind best x) e)
    where
      go : (t : Bool) → run_conflicts key start end kind x ≡ t → NoneConflicts (cond t (Some (nearer_of start best x)) best) xs → NoneConflicts best (x ∷ xs)
      go true is n = let none = n.no_best in absurd (cc none)
      go false is n = record { no_best = n.no_best; each = (is, n.each) }

  pub nearest_append : (rs ss : List Run) (best : Option Run) →
      nearest_from key start end kind best (rs ++ ss) ≡ nearest_from key start end kind (nearest_from key start end kind best rs) ss
  nearest_append [] ss best = refl
  nearest_append (x ∷ xs) ss best = nearest_append xs ss (nearest_with key start end kind best x)

  -- ---- the lock that is named

  module _ (rs : List Run) (good : AreRuns rs) where
    -- an excluder is on a run that conflicts with the lock
    record OnRun (byte owner : ℕ) : Type 0 where
      pub run : Run
      pub found : run_at rs (of_owner key owner, byte) ≡ Some run
      pub kinds_conflict : run_conflicts key start end kind run ≡ true
      pub owner_is : run.key.owner ≡ owner
      pub from : run.start ≤ byte

    on_run : (byte owner : ℕ) (mark : Mark) → start ≤ byte → byte ≤ end → IsConflicting (marking_of (map meant rs)) key kind byte owner mark → OnRun byte owner
    on_run byte owner mark from upto x =
        let h = held_by rs (of_owner key owner, byte) mark (sym (get-runs rs (of_owner key owner, byte)) ∙ x.held) in
        let at = at_spot h.run (of_owner key owner, byte) (run_has rs (of_owner key owner, byte) h.run h.found) in
        let begins = at.from in
        let ends = at.upto in
        let owner_is : h.run.key.owner ≡ owner = ap (λ (k : Key). k.owner) at.key in
        record {
          run = h.run;
          found = h.found;
          kinds_conflict = conflicting_all (class_number key.class) (class_number h.run.key.class) key.node h.run.key.node key.owner h.run.key.owner start end
              h.run.start h.run.end (kinds_conflict kind h.run.mark.kind)
              (ap (λ (k : Key). class_number k.class) (sym at.key)) (ap (λ (k : Key). k.node) (sym at.key)) (λ same. x.other (sym owner_is ∙ sym same))
              (omega arith) (omega arith)
              (ap (λ (t : Mark). kinds_conflict kind t.kind) h.mark_is ∙ x.write);
          owner_is = owner_is;
          from = begins;
        }

    -- no excluder comes before the nearest run
    none_first : (r : Run) → IsNearest None rs r → (byte owner : ℕ) (mark : Mark) → start ≤ byte → byte ≤ end →
        IsConflicting (marking_of (map meant rs)) key kind byte owner mark → NotNearer byte (max r.start start) owner r.key.owner
    none_first r near byte owner mark from upto x =
        let on = on_run byte owner mark from upto x in
        let begins = on.from in
        let owner_is = on.owner_is in
        let test = each_at (λ (s : Run). run_conflicts key start end kind s ≡ true → is_nearer start s r ≡ false) rs (has_spot (of_owner key owner, byte)) on.run
        near.than_each on.found on.kinds_conflict in
        let n = not_nearer (max on.run.start start) (max r.start start) on.run.key.owner r.key.owner test in
        let place = n.place in
        record { place = omega arith; owner = λ same. let least = n.owner (omega arith) in omega arith }

    named_run : start ≤ end → (r : Run) → nearest_from key start end kind None rs ≡ Some r →
        IsBlocker (marking_of (map meant rs)) key start end kind (lock_of r)
    named_run some r e =
        let listed = nearest_among (IsListed rs) rs None r (λ b is. absurd (cc is))
        (all_weaker (IsListed rs) (λ s. run_conflicts key start end kind s ≡ true → IsListed rs s) (λ s l h. l) rs (each_listed rs good)) e in
        let conflicting = nearest_among (λ s. run_conflicts key start end kind s ≡ true) rs None r (λ b is. absurd (cc is)) (all_weaker (IsListed rs)
        (λ s. run_conflicts key start end kind s ≡ true → run_conflicts key start end kind s ≡ true) (λ s l h. h) rs (each_listed rs good)) e in
        let p = conflicting_parts (class_number key.class) (class_number r.key.class) key.node r.key.node key.owner r.key.owner start end r.start r.end
        (kinds_conflict kind r.mark.kind) conflicting in
        let near = nearest_is rs None r e in
        let class : r.key.class ≡ key.class = sym (same_class key.class r.key.class p.class) in
        let node : r.key.node ≡ key.node = sym p.node in
        let holder : r.key ≡ of_owner key r.key.owner = λ i. record { class = class i; node = node i; owner = r.key.owner } in
        let begins = p.begins in
        let ends = p.ends in
        let ordered = listed.ordered in
        let row = run_row rs good r (max r.start start) (omega arith) (omega arith) listed.found listed.whole in
        record {
          byte = max r.start start;
          from = omega arith;
          upto = omega arith;
          conflicting = record {
            held = ap (λ (k : Key). get (marking_of (map meant rs)) (k, max r.start start)) (sym holder)
                ∙ row.each (max r.start start) row.from row.upto;
            other = λ same. p.other (sym same);
            write = p.write;
          };
          least_byte = λ b owner mark from below x. let n = none_first r near b owner mark from (omega arith) x in let place = n.place in absurd (omega arith);
          least_owner = λ owner mark x. let n = none_first r near (max r.start start) owner mark (omega arith) (omega arith) x in n.owner refl;
          run = subst (λ (k : Key). IsRunAt (marking_of (map meant rs)) k r.mark (max r.start start) r.start r.end) holder row;
        }

    -- the nearest of the runs that conflict with the lock is the one that is named
    pub blocker_of_runs : start ≤ end → end ≤ 9223372036854775807 →
        option_map lock_of (nearest_from key start end kind None rs) ≡ blocker (marking_of (map meant rs)) key start end kind
    blocker_of_runs some within = go (nearest_from key start end kind None rs) refl
      where
        none : NoneConflicts None rs → (o : Option Held) → blocker (marking_of (map meant rs)) key start end kind ≡ o → None ≡ o
        none n None is = refl
        none n (Some h) is =
            let b = (named_words (marking_of (map meant rs)) key start end kind h within).0 is in
            let on = on_run b.byte h.owner h.mark b.from b.upto b.conflicting in
            let no = each_at (λ (s : Run). run_conflicts key start end kind s ≡ false) rs (has_spot (of_owner key h.owner, b.byte)) on.run n.each on.found in
            absurd (cc (sym no ∙ on.kinds_conflict))

        go : (o : Option Run) → nearest_from key start end kind None rs ≡ o → option_map lock_of o ≡ blocker (marking_of (map meant rs)) key start end kind
        go (Some r) is = sym ((named_words (marking_of (map meant rs)) key start end kind (lock_of r) within).1 (named_run some r is))
        go None is = none (none_nearest rs None is) (blocker (marking_of (map meant rs)) key start end kind) refl
