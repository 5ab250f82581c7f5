-- The number of runs of a marking is the length of a list of runs that means it.
use Rattle.std.proofs.Common.{◌≡◌, ◌-◌, ◌<◌, ◌≤◌, Bool, true, false, cond, ◌||◌, nat_lt, Option, Some, None, List, []}
use Rattle.std.proofs.Common.{◌∷◌, map, length, refl, ap, sym, ◌∙◌}
use Rattle.std.proofs.Common.{subst, arith}
use Rattle.std.proofs.lemmas.Bool.Decides.{nat_tests}
use Rattle.std.proofs.lemmas.List.{length-map}
use Rattle.std.proofs.lemmas.Map.Made.{is_member-Decides}
use Rattle.std.specs.Set.{is_member}
use Rattle.std.specs.List.{IsDistinct, AllByRecursion}
use Rattle.std.specs.Option.{option_map}
use Rattle.std.specs.Ordering.{eq_by_cmp}
use Rattle.std.specs.FinMap.{get}
use Rattle.std.proofs.lemmas.Bool.{or_left, or_right}
use Rattle.fl_marks.specs.declared.lock.Mark.{Mark}
use Rattle.fl_marks.specs.declared.run.Run.{Run}
use Rattle.fl_marks.specs.Marking.{Spot, spot_cmp, marking_of}
use Rattle.fl_marks.specs.Runs.{runs, IsStart}
use Rattle.fl_ranges.specs.Inside.RunList.{has_spot, run_at, held_at, AreApart, IsWhole, AreRuns}
use Rattle.fl_ranges.specs.Setting.{meant}
use Rattle.fl_ranges.proofs.Markings.{get-marking_of}
use Rattle.fl_ranges.proofs.Spots.{same_spot, spot_itself}
use Rattle.fl_ranges.proofs.Starts.{starts_counted, spots_decided}
use Rattle.fl_ranges.proofs.RunLists.{at_spot, spot_of, each_at, run_has, same_run, each_found, each_ordered}
use Rattle.fl_ranges.proofs.RunLists.{mark_at-runs}
use Rattle.fl_ranges.proofs.Each.{all_both, all_weaker}

pub get-runs : (rs : List Run) (q : Spot) → get (marking_of (map meant rs)) q ≡ held_at rs q
get-runs rs q = get-marking_of (map meant rs) q ∙ mark_at-runs rs q

-- where a run starts
abbrev pub start_of : Run → Spot
start_of r = (r.key, r.start)

passed : {A : Type 0} (b : Bool) (x : A) (o : Option A) → cond b (Some x) o ≡ None → (b ≡ false) × (o ≡ None)
passed true x o e = absurd (cc e)
passed false x o e = (refl, e)

has_start : (r : Run) (q : Spot) → r.start ≤ r.end → q ≡ start_of r → has_spot q r ≡ true
has_start r q ordered e = subst (λ (p : Spot). has_spot p r ≡ true) (sym e) (spot_of r (r.key, r.start) refl (omega arith) ordered)

starts_elsewhere : (q : Spot) (r : Run) → r.start ≤ r.end → has_spot q r ≡ false → eq_by_cmp spot_cmp q (start_of r) ≡ false
starts_elsewhere q r ordered hasnt = go (eq_by_cmp spot_cmp q (start_of r)) refl
  where
    go : (b : Bool) → eq_by_cmp spot_cmp q (start_of r) ≡ b → b ≡ false
    go true e = absurd (cc (sym hasnt ∙ has_start r q ordered (same_spot q (start_of r) e)))
    go false e = refl

unstarted : (q : Spot) (rs : List Run) → AreApart rs → run_at rs q ≡ None → AllByRecursion (λ p. eq_by_cmp spot_cmp q p ≡ false) (map start_of rs)
unstarted q [] apart none = tt
unstarted q (r ∷ rs) apart none =
    let both = passed (has_spot q r) r (run_at rs q) none in
    (starts_elsewhere q r apart.0 both.0, unstarted q rs apart.2 both.1)

pub distinct_starts : (rs : List Run) → AreApart rs → IsDistinct (eq_by_cmp spot_cmp) (map start_of rs)
unfolding IsDistinct
distinct_starts [] apart = tt
distinct_starts (r ∷ rs) apart = (unstarted (start_of r) rs apart.2 (apart.1 (start_of r) (has_start r (start_of r) apart.0 refl)), distinct_starts rs apart.2)

started : (P : Spot → Type 0) (rs : List Run) → AllByRecursion (λ r. P (start_of r)) rs → (q : Spot) →
    is_member (eq_by_cmp spot_cmp) (map start_of rs) q ≡ true → P q
started P [] all q e = absurd (cc e)
started P (r ∷ rs) all q e = go (started P rs all.1 q) (eq_by_cmp spot_cmp q (start_of r)) refl e
  where
    go : (is_member (eq_by_cmp spot_cmp) (map start_of rs) q ≡ true → P q) → (b : Bool) → eq_by_cmp spot_cmp q (start_of r) ≡ b →
        (b || is_member (eq_by_cmp spot_cmp) (map start_of rs) q) ≡ true → P q
    go rest true is h = subst P (sym (same_spot q (start_of r) is)) all.0
    go rest false is h = rest h

all_started : (rs : List Run) → AllByRecursion (λ r. is_member (eq_by_cmp spot_cmp) (map start_of rs) (start_of r) ≡ true) rs
all_started [] = tt
all_started (r ∷ rs) = (
  or_left _ _ (spot_itself (start_of r)),
  all_weaker (λ x. is_member (eq_by_cmp spot_cmp) (map start_of rs) (start_of x) ≡ true)
      (λ x. is_member (eq_by_cmp spot_cmp) (map start_of (r ∷ rs)) (start_of x) ≡ true)
      (λ x h. or_right _ _ h) rs (all_started rs),
)

-- the run whose mark a spot has
pub record Held (rs : List Run) (q : Spot) (mark : Mark) : Type 0 where
  pub run : Run
  pub found : run_at rs q ≡ Some run
  pub mark_is : run.mark ≡ mark

pub held_by : (rs : List Run) (q : Spot) (mark : Mark) → held_at rs q ≡ Some mark → Held rs q mark
held_by rs q mark e = go (run_at rs q) refl e
  where
    go : (o : Option Run) → run_at rs q ≡ o → option_map (λ (r : Run). r.mark) o ≡ Some mark → Held rs q mark
    go None is h = absurd (cc h)
    go (Some r) is h = record { run = r; found = is; mark_is = cc h }

pub held_of : (rs : List Run) (q : Spot) (r : Run) → run_at rs q ≡ Some r → held_at rs q ≡ Some r.mark
held_of rs q r e = ap (option_map (λ (x : Run). x.mark)) e

module _ (rs : List Run) (good : AreRuns rs) where
  is_start : (r : Run) → (r.start ≤ r.end) × ((q : Spot) → has_spot q r ≡ true → run_at rs q ≡ Some r) → IsWhole (held_at rs) r →
      IsStart (marking_of (map meant rs)) (start_of r)
  is_start r own whole = record {
    mark = r.mark;
    marked = get-runs rs (r.key, r.start) ∙ held_of rs (r.key, r.start) r (own.1 (r.key, r.start) (has_start r (r.key, r.start) own.0 refl));
    first = λ apart same. whole.first apart (sym (get-runs rs (r.key, r.start - 1)) ∙ same);
  }

  starts_are : AllByRecursion (λ r. IsStart (marking_of (map meant rs)) (start_of r)) rs
  starts_are =
      all_weaker (λ r. ((r.start ≤ r.end) × ((q : Spot) → has_spot q r ≡ true → run_at rs q ≡ Some r)) × IsWhole (held_at rs) r)
      (λ r. IsStart (marking_of (map meant rs)) (start_of r))
      (λ r h. is_start r h.0 h.1) rs
      (all_both (λ r. (r.start ≤ r.end) × ((q : Spot) → has_spot q r ≡ true → run_at rs q ≡ Some r)) (IsWhole (held_at rs)) rs
      (all_both (λ r. r.start ≤ r.end) (λ r. (q : Spot) → has_spot q r ≡ true → run_at rs q ≡ Some r) rs (each_ordered rs good.apart)
      (each_found rs good.apart)) good.whole)

  -- a start is where a run of the list starts
  pub start_listed : (q : Spot) → IsStart (marking_of (map meant rs)) q → is_member (eq_by_cmp spot_cmp) (map start_of rs) q ≡ true
  start_listed q s =
      let h = held_by rs q s.mark (sym (get-runs rs q) ∙ s.marked) in
      go h.run h.found h.mark_is (nat_lt h.run.start q.1) refl
    where
      go : (r : Run) → run_at rs q ≡ Some r → r.mark ≡ s.mark → (b : Bool) → nat_lt r.start q.1 ≡ b → is_member (eq_by_cmp spot_cmp) (map start_of rs) q ≡ true
      go r found mark true less =
          let at = at_spot r q (run_has rs q r found) in
          let below : r.start < q.1 = grind (arith, nat_tests) in
          let before : has_spot (q.0, q.1 - 1) r ≡ true = spot_of r (q.0, q.1 - 1) at.key (omega (arith, below)) (omega (arith, at.upto)) in
          absurd (s.first (λ zero_is. omega (arith, below, zero_is))
          (get-runs rs (q.0, q.1 - 1) ∙ held_of rs (q.0, q.1 - 1) r (same_run rs good.apart q (q.0, q.1 - 1) r found before) ∙ ap Some mark))
      go r found mark false less =
          let at = at_spot r q (run_has rs q r found) in
          let here : r.start ≡ q.1 = grind (arith, nat_tests, at.from) in
          let same : start_of r ≡ q = λ i. (at.key i, here i) in
          subst (λ (p : Spot). is_member (eq_by_cmp spot_cmp) (map start_of rs) p ≡ true) same
          (each_at (λ x. is_member (eq_by_cmp spot_cmp) (map start_of rs) (start_of x) ≡ true) rs (has_spot q) r (all_started rs) found)

  pub runs_length : runs (marking_of (map meant rs)) ≡ length rs
  runs_length =
      sym (starts_counted (marking_of (map meant rs)) (map start_of rs) (distinct_starts rs good.apart) (λ q. (
        λ h. started (IsStart (marking_of (map meant rs))) rs starts_are q ((is_member-Decides spots_decided (map start_of rs) q).1 h),
        λ s. (is_member-Decides spots_decided (map start_of rs) q).0 (start_listed q s),
      )))
      ∙ length-map rs start_of
