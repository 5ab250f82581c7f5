-- The number of runs, by a list of the spots where they start.
use Rattle.std.proofs.Common.{◌≡◌, ◌≢◌, ◌↔◌, ℕ, zero, suc, ◌-◌, Bool, true, false, cond, not, ◌&&◌, ◌||◌, ◌==◌, Option}
use Rattle.std.proofs.Common.{Some, None, List, [], ◌∷◌, map, length}
use Rattle.std.proofs.Common.{Contains, refl, ap, sym, ◌∙◌, subst, arith}
use Rattle.std.proofs.lemmas.Bool.Decides.{nat_tests}
use Rattle.std.proofs.lemmas.List.{length-map}
use Rattle.std.proofs.lemmas.List.Sums.{length-filter}
use Rattle.std.proofs.lemmas.Map.Made.{is_member-Decides, length-from_same_keys}
use Rattle.std.specs.Prelude.{Decides}
use Rattle.std.specs.Set.{is_member}
use Rattle.std.specs.List.{list_any, filter, IsDistinct, AllByRecursion}
use Rattle.std.specs.declared.cmp.Ordering.{Ordering}
use Rattle.std.specs.Ordering.{eq_by_cmp, is_lt}
use Rattle.std.specs.Cmp.{IsTotalOrder, eq_by_cmp_equiv, both_ways, first_so, second_so}
use Rattle.std.specs.FinMap.{get, entries, entries_sorted, is_sorted}
use Rattle.std.specs.FinMap.Entries.{below_all}
use Rattle.std.proofs.lemmas.Bool.{and_from}
use Rattle.std.proofs.Math.Bool.{and-true, and-false}
use Rattle.fl_marks.specs.declared.lock.Kind.{Kind}
use Rattle.fl_marks.specs.declared.lock.Kind.TheVariants.{Read, Write}
use Rattle.fl_marks.specs.declared.lock.Mark.{Mark}
use Rattle.fl_marks.specs.Marking.{Spot, spot_cmp, Marking}
use Rattle.fl_marks.specs.Runs.{kind_number, is_same_mark, is_mark, is_start, runs, IsStart}
use Rattle.fl_ranges.proofs.Markings.{spots_total, exact_spots}
use Rattle.fl_ranges.proofs.Spots.{same_spot, spot_itself}
use Rattle.fl_ranges.proofs.Entries.{any_entry, entry_passes, is_Less, truth, less_differs}

-- ---- marks

same_kind : (a b : Kind) → kind_number a ≡ kind_number b → a ≡ b
same_kind Read Read e = refl
same_kind Read Write e = absurd (omega arith)
same_kind Write Read e = absurd (omega arith)
same_kind Write Write e = refl

both_numbers : (a b c d : ℕ) → ((a == b) && (c == d)) ≡ true → (a ≡ b) × (c ≡ d)
both_numbers a b c d e = (grind (arith, nat_tests), grind (arith, nat_tests))

pub same_mark : (a b : Mark) → is_same_mark a b ≡ true → a ≡ b
same_mark a b e =
    let both = both_numbers (kind_number a.kind) (kind_number b.kind) a.pid b.pid e in
    let kind = same_kind a.kind b.kind both.0 in
    let pid = both.1 in
    λ i. record { kind = kind i; pid = pid i }

numbers_themselves : (a b : ℕ) → ((a == a) && (b == b)) ≡ true
numbers_themselves a b = grind (arith, nat_tests)

pub mark_itself : (a : Mark) → is_same_mark a a ≡ true
mark_itself a = numbers_themselves (kind_number a.kind) a.pid

-- the test for a mark, and the mark
pub is_mark-Decides : (mark : Mark) (o : Option Mark) → Decides (is_mark mark o) (o ≡ Some mark)
is_mark-Decides mark None = (λ h. absurd (cc h), λ h. absurd (cc h))
is_mark-Decides mark (Some other) = (
  λ h. ap Some (same_mark other mark h),
  λ h. let same : other ≡ mark = cc h in ap (λ (x : Mark). is_same_mark x mark) same ∙ mark_itself mark,
)

-- ---- the test for a start, and a start in words

first_or : (z h : Bool) → (z || not h) ≡ true → z ≡ false → h ≡ false
first_or true h e f = absurd (cc f)
first_or false true e f = absurd (cc e)
first_or false false e f = refl

not_zero : (n : ℕ) → n ≢ 0 → (n == 0) ≡ false
not_zero zero h = absurd (h refl)
not_zero (suc n) h = grind (arith, nat_tests)

pub start_words : (m : Marking) (q : Spot) (mark : Mark) → get m q ≡ Some mark → is_start m (q, mark) ≡ true → IsStart m q
start_words m q mark marked is = record {
  mark = mark;
  marked = marked;
  first = λ apart same.
      let no = first_or (q.1 == 0) (is_mark mark (get m (q.0, q.1 - 1))) is (not_zero q.1 apart) in
      cc (no, (is_mark-Decides mark (get m (q.0, q.1 - 1))).1 same);
}

pub start_test : (m : Marking) (q : Spot) (mark : Mark) → (q.1 ≢ 0 → get m (q.0, q.1 - 1) ≢ Some mark) → is_start m (q, mark) ≡ true
start_test m q mark first = go (q.1 == 0) (is_mark mark (get m (q.0, q.1 - 1))) refl refl
  where
    go : (z h : Bool) → (q.1 == 0) ≡ z → is_mark mark (get m (q.0, q.1 - 1)) ≡ h → (z || not h) ≡ true
    go true h is has = refl
    go false false is has = refl
    go false true is has =
        absurd (first (λ zero_is. absurd (cc (sym is ∙ ap (λ (n : ℕ). n == 0) zero_is))) ((is_mark-Decides mark (get m (q.0, q.1 - 1))).0 has))

-- ---- the starts of a marking, as a list

module _ {K X : Type 0} {R : K → K → Ordering} (o : IsTotalOrder R) (p : (K × X) → Bool) where
  above_kept : (k : K) (es : List (K × X)) → below_all R k es ≡ true → AllByRecursion (λ j. eq_by_cmp R k j ≡ false) (map (λ (e : K × X). e.0) (filter p es))
  above_kept k [] below = tt
  above_kept k (e ∷ es) below = go (p e) (above_kept k es (second_so (is_lt (R k e.0)) (below_all R k es) below))
    where
      go : (b : Bool) → AllByRecursion (λ j. eq_by_cmp R k j ≡ false) (map (λ (e : K × X). e.0) (filter p es)) →
          AllByRecursion (λ j. eq_by_cmp R k j ≡ false) (map (λ (e : K × X). e.0) (cond b (e ∷ filter p es) (filter p es)))
      go true rest = (less_differs (R k e.0) (is_Less (R k e.0) (first_so (is_lt (R k e.0)) (below_all R k es) below)), rest)
      go false rest = rest

  -- the keys of the entries that pass a test differ
  kept_distinct : (es : List (K × X)) → is_sorted R es ≡ true → IsDistinct (eq_by_cmp R) (map (λ (e : K × X). e.0) (filter p es))
  unfolding IsDistinct
  kept_distinct [] sorted = tt
  kept_distinct (e ∷ es) sorted = go (p e) (kept_distinct es (second_so (below_all R e.0 es) (is_sorted R es) sorted))
    where
      go : (b : Bool) → IsDistinct (eq_by_cmp R) (map (λ (e : K × X). e.0) (filter p es)) →
          IsDistinct (eq_by_cmp R) (map (λ (e : K × X). e.0) (cond b (e ∷ filter p es) (filter p es)))
      go true rest = (above_kept e.0 es (first_so (below_all R e.0 es) (is_sorted R es) sorted), rest)
      go false rest = rest

  member_kept : (q : K) (es : List (K × X)) →
      is_member (eq_by_cmp R) (map (λ (e : K × X). e.0) (filter p es)) q ≡ list_any (λ (e : K × X). eq_by_cmp R q e.0 && p e) es
  member_kept q [] = refl
  member_kept q (e ∷ es) = go (p e) (eq_by_cmp R q e.0) (member_kept q es)
    where
      go : (b c : Bool) → is_member (eq_by_cmp R) (map (λ (e : K × X). e.0) (filter p es)) q ≡ list_any (λ (e : K × X). eq_by_cmp R q e.0 && p e) es →
          list_any (eq_by_cmp R q) (map (λ (e : K × X). e.0) (cond b (e ∷ filter p es) (filter p es)))
          ≡ ((eq_by_cmp R q e.0 && b) || list_any (λ (e : K × X). eq_by_cmp R q e.0 && p e) es)
      go true c rest = ap (λ (b : Bool). eq_by_cmp R q e.0 || b) rest
          ∙ ap (λ (b : Bool). b || list_any (λ (e : K × X). eq_by_cmp R q e.0 && p e) es) (sym (and-true (eq_by_cmp R q e.0)))
      go false c rest = rest ∙ ap (λ (b : Bool). b || list_any (λ (e : K × X). eq_by_cmp R q e.0 && p e) es) (sym (and-false (eq_by_cmp R q e.0)))

pub spots_decided : (a b : Spot) → Decides (eq_by_cmp spot_cmp a b) (a ≡ b)
spots_decided a b = (same_spot a b, λ e. ap (eq_by_cmp spot_cmp a) (sym e) ∙ spot_itself a)

starts_at : Marking → Spot → (Spot × Mark) → Bool
starts_at m q e = eq_by_cmp spot_cmp q e.0 && is_start m e

listed : (m : Marking) (q : Spot) → IsStart m q → list_any (starts_at m q) (entries m) ≡ true
unfolding starts_at
listed m q s = entry_passes spots_total exact_spots (starts_at m q) m q s.mark s.marked (and_from _ _ (spot_itself q) (start_test m q s.mark s.first))

unlisted : (m : Marking) (q : Spot) → list_any (starts_at m q) (entries m) ≡ true → IsStart m q
unfolding starts_at
unlisted m q any =
    let e = any_entry spots_total (starts_at m q) m any in
    let same : q ≡ e.0 = same_spot q e.0 (first_so _ _ e.3) in
    subst (IsStart m) (sym same) (start_words m e.0 e.1 e.2 (second_so (eq_by_cmp spot_cmp q e.0) _ e.3))

-- a list without doubles that holds exactly the starts has as many spots as there are runs
pub starts_counted : (m : Marking) (spots : List Spot) → IsDistinct (eq_by_cmp spot_cmp) spots → ((q : Spot) → Contains spots q ↔ IsStart m q) →
    length spots ≡ runs m
unfolding starts_at
starts_counted m spots distinct each =
    let starts = map (λ (e : Spot × Mark). e.0) (filter (is_start m) (entries m)) in
    let same : (q : Spot) → is_member (eq_by_cmp spot_cmp) spots q ≡ is_member (eq_by_cmp spot_cmp) starts q =
    λ q. both_ways _ _
    (λ h. member_kept spots_total (is_start m) q (entries m) ∙ listed m q ((each q).0 ((is_member-Decides spots_decided spots q).0 h)))
    (λ h. (is_member-Decides spots_decided spots q).1 ((each q).1 (unlisted m q (sym (member_kept spots_total (is_start m) q (entries m)) ∙ h)))) in
    length-from_same_keys (eq_by_cmp_equiv spots_total) spots starts distinct (kept_distinct spots_total (is_start m) (entries m) (truth _ (entries_sorted m)))
    same
    ∙ length-map (filter (is_start m) (entries m)) (λ (e : Spot × Mark). e.0)
    ∙ length-filter (is_start m) (entries m)
