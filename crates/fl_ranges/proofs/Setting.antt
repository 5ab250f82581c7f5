-- Runs that are set one after another.
use Rattle.std.proofs.Common.{◌≡◌, ◌≢◌, ◌-◌, ◌≤◌, ℕ, Bool, true, false, cond, not, nat_le, ◌&&◌, ◌==◌, Option, Some, None, option_map, List, [], ◌∷◌, ◌++◌, map, length}
use Rattle.std.proofs.Common.{length-append, append_assoc, refl, ap, sym, ◌∙◌, subst, arith}
use Rattle.std.proofs.lemmas.Bool.Decides.{nat_tests}
use Rattle.std.proofs.lemmas.Bool.{false_from_ne_true}
use Rattle.std.proofs.lemmas.List.Sums.{fold-append}
use Rattle.std.proofs.lemmas.Option.{none-some}
use Rattle.std.specs.List.{AllByRecursion}
use Rattle.std.specs.Option.{option_or}
use Rattle.std.specs.FinMap.{empty, get, get-empty, same_map}
use Rattle.fl_marks.specs.declared.lock.Mark.{Mark}
use Rattle.fl_marks.specs.declared.run.Run.{Run}
use Rattle.fl_marks.specs.Bytes.{is_range}
use Rattle.fl_marks.specs.Conflict.{are_of_two_owners, conflicts, IsLawful}
use Rattle.fl_marks.specs.Marking.{class_number, Marking, Spot, spot_cmp, marking_of, stroked, covers}
use Rattle.fl_marks.specs.Runs.{runs}
use Rattle.fl_ranges.specs.Inside.RunList.{has_spot, run_at, held_at, AreApart, IsWhole, AreRuns}
use Rattle.fl_ranges.specs.Setting.{meant, set_all, CanBeSet, IsOfRun}
use Rattle.fl_ranges.proofs.ConflictWords.{conflict_words}
use Rattle.fl_ranges.proofs.Counting.{get-runs, runs_length}
use Rattle.fl_ranges.proofs.Markings.{spots_total, exact_spots, get-stroked}
use Rattle.fl_ranges.proofs.RunLists.{at_spot, spot_of, each_found, each_ordered}

mark_in : Run → Mark
mark_in r = r.mark

-- ---- what a spot has then

set_at : (rs : List Run) (m : Marking) (q : Spot) → AreApart rs → get (set_all rs m) q ≡ option_or (held_at rs q) (get m q)
set_at [] m q apart = refl
set_at (r ∷ rs) m q apart =
    set_at rs (stroked (meant r) m) q apart.2 ∙ ap (option_or (held_at rs q)) (get-stroked (meant r) m q) ∙ go (has_spot q r) refl
  where
    after : Bool → Option Mark
    after b = option_or (option_map (λ (r : Run). r.mark) (cond b (Some r) (run_at rs q))) (get m q)

    go : (b : Bool) → has_spot q r ≡ b → option_or (held_at rs q) (cond (covers (meant r) q) (Some r.mark) (get m q)) ≡ after (has_spot q r)
    go true e =
        (λ i. option_or (option_map (λ (r : Run). r.mark) (apart.1 q e i)) (cond (e i) (Some r.mark) (get m q))) ∙ sym (ap after e)
    go false e = ap (λ b. option_or (held_at rs q) (cond b (Some r.mark) (get m q))) e ∙ sym (ap after e)

or_none : {A : Type 0} (o : Option A) → option_or o None ≡ o
or_none None = refl
or_none (Some x) = refl

set_marking : (rs : List Run) → AreApart rs → set_all rs empty ≡ marking_of (map meant rs)
set_marking rs apart =
    same_map spots_total exact_spots _ _
    (λ q. set_at rs empty q apart ∙ ap (option_or (held_at rs q)) (get-empty spot_cmp q) ∙ or_none (held_at rs q) ∙ sym (get-runs rs q))

-- ---- the first of some runs

found_front : (xs ys : List Run) (q : Spot) (r : Run) → run_at xs q ≡ Some r → run_at (xs ++ ys) q ≡ Some r
found_front [] ys q r found = absurd (none-some r found)
found_front (x ∷ xs) ys q r found = go (has_spot q x) (found_front xs ys q r) found
  where
    go : (b : Bool) → (run_at xs q ≡ Some r → run_at (xs ++ ys) q ≡ Some r) → cond b (Some x) (run_at xs q) ≡ Some r → cond b (Some x) (run_at (xs ++ ys) q) ≡ Some r
    go true later e = e
    go false later e = later e

none_front : (xs ys : List Run) (q : Spot) → run_at (xs ++ ys) q ≡ None → run_at xs q ≡ None
none_front xs ys q none = go (run_at xs q) refl
  where
    go : (o : Option Run) → run_at xs q ≡ o → run_at xs q ≡ None
    go None e = e
    go (Some r) e = absurd (none-some r (sym none ∙ found_front xs ys q r e))

held_front : (xs ys : List Run) (q : Spot) (mark : Mark) → held_at xs q ≡ Some mark → held_at (xs ++ ys) q ≡ Some mark
held_front xs ys q mark held = go (run_at xs q) refl held
  where
    go : (o : Option Run) → run_at xs q ≡ o → option_map (λ (r : Run). r.mark) o ≡ Some mark → held_at (xs ++ ys) q ≡ Some mark
    go None e h = absurd (none-some mark h)
    go (Some r) e h = ap (option_map (λ (r : Run). r.mark)) (found_front xs ys q r e) ∙ h

apart_front : (xs ys : List Run) → AreApart (xs ++ ys) → AreApart xs
apart_front [] ys apart = tt
apart_front (x ∷ xs) ys apart = (apart.0, λ q has. none_front xs ys q (apart.1 q has), apart_front xs ys apart.2)

whole_front : (all xs ys : List Run) → ((q : Spot) (mark : Mark) → held_at all q ≡ Some mark → held_at (xs ++ ys) q ≡ Some mark) → (zs ws : List Run)
    → AllByRecursion (IsWhole (held_at (xs ++ ys))) (zs ++ ws) → AllByRecursion (IsWhole (held_at all)) zs
whole_front all xs ys more [] ws whole = tt
whole_front all xs ys more (z ∷ zs) ws whole = (
  record { in_range = whole.0.in_range; first = λ some held. whole.0.first some (more (z.key, z.start - 1) z.mark held) },
  whole_front all xs ys more zs ws whole.1,
)

runs_front : (xs ys : List Run) → AreRuns (xs ++ ys) → AreRuns xs
runs_front xs ys good = record { apart = apart_front xs ys good.apart; whole = whole_front xs xs ys (held_front xs ys) xs ys good.whole }

-- ---- one more fits

all_at : (P : Run → Type 0) (xs ys : List Run) (r : Run) → AllByRecursion P (xs ++ r ∷ ys) → P r
all_at P [] ys r all = all.0
all_at P (x ∷ xs) ys r all = all_at P xs ys r all.1

two_owners : (a b c d p q : ℕ) → b ≡ a → d ≡ c → (q ≢ p) → ((a == b) && ((c == d) && not (p == q))) ≡ true
two_owners a b c d p q class node other = grind (arith, nat_tests)

set_free : (front rest : List Run) (r : Run) → AreRuns (front ++ r ∷ rest) → IsLawful (marking_of (map meant (front ++ r ∷ rest)))
    → conflicts (set_all front empty) r.key r.start r.end r.mark.kind ≡ false
set_free front rest r good lawful = false_from_ne_true _ (λ conflict.
    let w = (conflict_words (set_all front empty) r.key r.start r.end r.mark.kind).0 conflict in
    let all = front ++ r ∷ rest in
    let q : Spot = (r.key, w.byte) in
    let own : run_at all q ≡ Some r = all_at (λ r. (q : Spot) → has_spot q r ≡ true → run_at all q ≡ Some r) front rest r (each_found all good.apart) q
    (spot_of r q refl w.from w.upto) in
    let here : get (marking_of (map meant all)) q ≡ Some r.mark = get-runs all q ∙ ap (option_map (λ (r : Run). r.mark)) own in
    let before : held_at front (w.contender, w.byte) ≡ Some w.mark = sym (get-runs front (w.contender, w.byte))
    ∙ ap (λ (m : Marking). get m (w.contender, w.byte)) (sym (set_marking front (runs_front front (r ∷ rest) good).apart)) ∙ w.held in
    let there = get-runs all (w.contender, w.byte) ∙ held_front front (r ∷ rest) (w.contender, w.byte) w.mark before in
    let owners : are_of_two_owners r.key w.contender ≡ true = two_owners (class_number r.key.class) (class_number w.contender.class) r.key.node w.contender.node r.key.owner w.contender.owner
    (ap class_number w.class) w.node w.other in
    absurd (cc (sym w.write ∙ lawful r.key w.contender w.byte r.mark w.mark here there owners)))

set_room : (front rest : List Run) (r : Run) → AreRuns (front ++ r ∷ rest)
    → runs (stroked (meant r) (set_all front empty)) ≤ runs (marking_of (map meant (front ++ r ∷ rest)))
set_room front rest r good =
    let one = front ++ r ∷ [] in
    let split : front ++ r ∷ rest ≡ one ++ rest = sym (append_assoc front (r ∷ []) rest) in
    let first : AreRuns one = runs_front one rest (subst AreRuns split good) in
    let set : stroked (meant r) (set_all front empty) ≡ marking_of (map meant one) =
    sym (fold-append (λ m r. stroked (meant r) m) empty front (r ∷ [])) ∙ set_marking one first.apart in
    let few : runs (stroked (meant r) (set_all front empty)) ≡ length one = ap runs set ∙ runs_length one first in
    let many : runs (marking_of (map meant (front ++ r ∷ rest))) ≡ length (front ++ r ∷ rest) = runs_length (front ++ r ∷ rest) good in
    omega (arith, few, many, ap length split, length-append one rest)

own_marks : (rs front rest : List Run) (r : Run) (byte : ℕ) → AreRuns rs → rs ≡ front ++ r ∷ rest → r.start ≤ byte → byte ≤ r.end
    → get (marking_of (map meant rs)) (r.key, byte) ≡ Some r.mark
own_marks rs front rest r byte good split from upto =
    let all = front ++ r ∷ rest in
    let q : Spot = (r.key, byte) in
    let own : run_at all q ≡ Some r = all_at (λ r. (q : Spot) → has_spot q r ≡ true → run_at all q ≡ Some r) front rest r
    (each_found all (subst AreRuns split good).apart) q (spot_of r q refl from upto) in
    ap (λ (l : List Run). get (marking_of (map meant l)) q) split ∙ get-runs all q ∙ ap (option_map (λ (r : Run). r.mark)) own

-- ---- a spot with a mark

run_among : (rs : List Run) (q : Spot) (mark : Mark) → held_at rs q ≡ Some mark → IsOfRun rs q mark
run_among [] q mark held = absurd (none-some mark held)
run_among (r ∷ rs) q mark held = go (run_among rs q mark) (has_spot q r) refl held
  where
    go : (held_at rs q ≡ Some mark → IsOfRun rs q mark) → (b : Bool) → has_spot q r ≡ b → option_map (λ (r : Run). r.mark) (cond b (Some r) (run_at rs q)) ≡ Some mark → IsOfRun (r ∷ rs) q mark
    go later true is h =
        let at = at_spot r q is in
        record { front = []; run = r; rest = rs; among = refl; key_is = at.key; from = at.from; upto = at.upto; mark_is = cc h }
    go later false is h =
        let of = later h in
        record {
          front = r ∷ of.front;
          run = of.run;
          rest = of.rest;
          among = ap (λ (l : List Run). r ∷ l) of.among;
          key_is = of.key_is;
          from = of.from;
          upto = of.upto;
          mark_is = of.mark_is;
        }

-- ---- the runs of a table

pub can_be_set : (limit : ℕ) (m : Marking) (rs : List Run) → AreRuns rs → marking_of (map meant rs) ≡ m → length rs ≤ limit → CanBeSet limit m rs
can_be_set limit m rs good is few = record {
  marking = set_marking rs good.apart ∙ is;
  once = sym (runs_length rs good) ∙ ap runs is;
  own = λ front rest r byte split from upto. ap (λ (m : Marking). get m (r.key, byte)) (sym is) ∙ own_marks rs front rest r byte good split from upto;
  all = λ spot mark has. run_among rs spot mark (sym (get-runs rs spot) ∙ ap (λ (m : Marking). get m spot) is ∙ has);
  ranges = λ front rest r split.
      within r.start r.end (all_at (λ (r : Run). r.start ≤ r.end) front rest r (subst (AllByRecursion (λ (r : Run). r.start ≤ r.end)) split (each_ordered rs good.apart)))
      (all_at (IsWhole (held_at rs)) front rest r (subst (AllByRecursion (IsWhole (held_at rs))) split good.whole)).in_range;
  room = λ front rest r split.
      let small = set_room front rest r (subst AreRuns split good) in
      let all : runs (marking_of (map meant (front ++ r ∷ rest))) ≡ length rs = ap (λ (l : List Run). runs (marking_of (map meant l))) (sym split) ∙ runs_length rs good in
      omega (arith, small, all, few);
  free = λ lawful front rest r split.
      set_free front rest r (subst AreRuns split good)
      (subst (λ (l : List Run). IsLawful (marking_of (map meant l))) split (subst IsLawful (sym is) lawful));
}
  where
    within : (a b : ℕ) → a ≤ b → b ≤ 9223372036854775807 → is_range a b ≡ true
    within a b first last = λ i. below a b first i && below b 9223372036854775807 last i
      where
        below : (x y : ℕ) → x ≤ y → nat_le x y ≡ true
        below x y h = grind (arith, nat_tests)
