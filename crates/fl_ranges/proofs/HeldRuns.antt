-- Runs that a sort has put in order are the runs of their marking in order.
use Rattle.std.proofs.Common.{◌≡◌, ℕ, suc, ◌+◌, ◌-◌, ◌<◌, Bool, true, false, cond, ◌||◌, T, Option, Some, None}
use Rattle.std.proofs.Common.{List, [], ◌∷◌, map, length, get_or, is_some, refl, ap, sym, ◌∙◌, subst, arith}
use Rattle.std.proofs.lemmas.Bool.{and_from}
use Rattle.std.proofs.lemmas.Cmp.{on_total, then_total}
use Rattle.std.proofs.lemmas.List.MinMax.{ranks_by}
use Rattle.std.proofs.lemmas.List.Sorted.{sorted_far, All-permutation, IsPermutation-map, list_any-IsPermutation}
use Rattle.std.proofs.lemmas.List.Elements.{All-from_recursion, recursion_from_All}
use Rattle.std.proofs.lemmas.Map.Keys.{IsDistinct-IsPermutation}
use Rattle.std.proofs.lemmas.Map.Lookups.{exact_unsigned}
use Rattle.std.specs.List.{filter, list_any, IsDistinct, AllByRecursion}
use Rattle.std.specs.List.Sorted.{IsPermutation, IsSortedBy}
use Rattle.std.specs.declared.cmp.Ordering.{Ordering}
use Rattle.std.specs.declared.cmp.Ordering.TheVariants.{Less, Equal, Greater}
use Rattle.std.specs.Ordering.{nat_cmp, ordering_then, ordering_reverse, eq_by_cmp, is_lt, is_eq}
use Rattle.std.specs.Cmp.{IsTotalOrder, nat_cmp_total, tied_itself, eq_by_cmp_equiv, both_ways, Equal-is, first_so, second_so}
use Rattle.std.specs.FinMap.{find, get, entries, entries_sorted, get-entries, from_entries, get-from_entries, is_sorted}
use Rattle.std.specs.FinMap.Entries.{below_all, same_entries}
use Rattle.fl_marks.specs.declared.lock.Mark.{Mark}
use Rattle.fl_marks.specs.declared.run.Run.{Run}
use Rattle.fl_marks.specs.Marking.{class_number, Spot, spot_cmp, Marking, marking_of}
use Rattle.fl_marks.specs.Runs.{is_start}
use Rattle.fl_marks.specs.HeldRuns.{listing_cmp, starts_in_order, run_from, runs_in_order}
use Rattle.fl_ranges.specs.Inside.RunList.{AreRuns}
use Rattle.fl_ranges.specs.Setting.{meant}
use Rattle.fl_ranges.proofs.Markings.{both_equal, same_class, spots_total}
use Rattle.fl_ranges.proofs.Spots.{same_spot, spot_itself}
use Rattle.fl_ranges.proofs.Entries.{found_above, truth}
use Rattle.fl_ranges.proofs.Starts.{start_words, start_test}
use Rattle.fl_ranges.proofs.RunLists.{spot_of}
use Rattle.fl_ranges.proofs.Each.{all_weaker}
use Rattle.fl_ranges.proofs.Counting.{start_of, distinct_starts, start_listed, get-runs, held_of}
use Rattle.fl_ranges.proofs.BlockersRows.{row_around, same_end}
use Rattle.fl_ranges.proofs.BlockersRuns.{IsListed, each_listed, run_row}

-- ---- the order

pub listing_total : IsTotalOrder listing_cmp
listing_total =
    then_total (on_total (λ (s : Spot). s.0.node) nat_cmp_total)
    (then_total (on_total (λ (s : Spot). class_number s.0.class) nat_cmp_total)
    (then_total (on_total (λ (s : Spot). s.1) nat_cmp_total) (on_total (λ (s : Spot). s.0.owner) nat_cmp_total)))

exact_listing : (a b : Spot) → listing_cmp a b ≡ Equal → a ≡ b
exact_listing a b e =
    let first = both_equal (nat_cmp a.0.node b.0.node)
    (ordering_then (nat_cmp (class_number a.0.class) (class_number b.0.class)) (ordering_then (nat_cmp a.1 b.1) (nat_cmp a.0.owner b.0.owner))) e in
    let second = both_equal (nat_cmp (class_number a.0.class) (class_number b.0.class)) (ordering_then (nat_cmp a.1 b.1) (nat_cmp a.0.owner b.0.owner)) first.1 in
    let third = both_equal (nat_cmp a.1 b.1) (nat_cmp a.0.owner b.0.owner) second.1 in
    let node = exact_unsigned _ _ first.0 in
    let class = same_class a.0.class b.0.class (exact_unsigned _ _ second.0) in
    let byte = exact_unsigned _ _ third.0 in
    let owner = exact_unsigned _ _ third.1 in
    λ i. (record { class = class i; node = node i; owner = owner i }, byte i)

-- both orders of spots tell them apart
same_test : (a b : Spot) → eq_by_cmp listing_cmp a b ≡ eq_by_cmp spot_cmp a b
same_test a b =
    both_ways _ _
    (λ h. ap (eq_by_cmp spot_cmp a) (sym (exact_listing a b ((Equal-is (listing_cmp a b)).0 h))) ∙ spot_itself a)
    (λ h. ap (eq_by_cmp listing_cmp a) (sym (same_spot a b h)) ∙ ap is_eq (tied_itself listing_total a))

-- of two different spots one is less
less_first : (a b : Spot) → is_lt (listing_cmp b a) ≡ false → eq_by_cmp spot_cmp a b ≡ false → is_lt (listing_cmp a b) ≡ true
less_first a b not differ = go (listing_cmp a b) refl
  where
    go : (o : Ordering) → listing_cmp a b ≡ o → is_lt o ≡ true
    go Less e = refl
    go Equal e = absurd (cc (sym differ ∙ ap (eq_by_cmp spot_cmp a) (sym (exact_listing a b e)) ∙ spot_itself a))
    go Greater e = absurd (cc (sym not ∙ ap is_lt (listing_total.antisymm b a) ∙ ap (λ (o : Ordering). is_lt (ordering_reverse o)) e))

-- ---- sorted runs

-- a run, as a marked spot
abbrev entry_of : Run → (Spot × Mark)
entry_of r = (start_of r, r.mark)

-- a run stands before another
abbrev pub before : Run → Run → Bool
before a b = is_lt (listing_cmp (start_of a) (start_of b))

below : (x : Run) (ys : List Run) → ((k : ℕ) → k < length ys → before (get_or ys k x) x ≡ false) →
    AllByRecursion (λ q. eq_by_cmp spot_cmp (start_of x) q ≡ false) (map start_of ys) → below_all listing_cmp (start_of x) (map entry_of ys) ≡ true
below x [] later apart = refl
below x (y ∷ ys) later apart =
    and_from _ _ (less_first (start_of x) (start_of y) (later 0 (omega arith)) apart.0) (below x ys (λ k less. later (suc k) (omega arith)) apart.1)

rising : (rs : List Run) → IsSortedBy before rs → IsDistinct (eq_by_cmp spot_cmp) (map start_of rs) → is_sorted listing_cmp (map entry_of rs) ≡ true
unfolding IsDistinct
rising [] sorted distinct = refl
rising (x ∷ xs) sorted distinct =
    and_from _ _
    (below x xs (λ k less. sorted_far before (ranks_by listing_total start_of) (x ∷ xs) sorted 0 (suc k) x (omega arith) (omega arith)) distinct.0)
    (rising xs (λ k d from upto.
    let next : suc k + 1 ≡ suc (k + 1) = omega arith in
    ap (λ (n : ℕ). before (get_or (x ∷ xs) n d) (get_or xs k d)) (sym next) ∙ sorted (suc k) d (omega arith) (omega arith)) distinct.1)

-- ---- what stands at a spot

-- the mark, if the spot with it passes the test
abbrev kept : ((Spot × Mark) → Bool) → Spot → Option Mark → Option Mark
kept p q None = None
kept p q (Some mark) = cond (p (q, mark)) (Some mark) None

-- nothing stands at a spot before all others
none_below : (q : Spot) (es : List (Spot × Mark)) → below_all spot_cmp q es ≡ true → find spot_cmp q es ≡ None
none_below q es below = go (find spot_cmp q es) refl
  where
    go : (o : Option Mark) → find spot_cmp q es ≡ o → o ≡ None
    go None is = refl
    go (Some v) is = absurd (cc (sym (tied_itself spots_total q) ∙ found_above spots_total q q v es below is))

find-filter : (p : (Spot × Mark) → Bool) (es : List (Spot × Mark)) → is_sorted spot_cmp es ≡ true → (q : Spot) →
    find listing_cmp q (filter p es) ≡ kept p q (find spot_cmp q es)
find-filter p [] sorted q = refl
find-filter p (e ∷ es) sorted q =
    go (p e) (eq_by_cmp spot_cmp q e.0) refl refl (find-filter p es (second_so (below_all spot_cmp e.0 es) (is_sorted spot_cmp es) sorted) q)
  where
    same_entry : eq_by_cmp spot_cmp q e.0 ≡ true → p (q, e.1) ≡ p e
    same_entry here = ap (λ (s : Spot). p (s, e.1)) (same_spot q e.0 here)

    go : (b c : Bool) → p e ≡ b → eq_by_cmp spot_cmp q e.0 ≡ c → find listing_cmp q (filter p es) ≡ kept p q (find spot_cmp q es) →
        find listing_cmp q (cond b (e ∷ filter p es) (filter p es)) ≡ kept p q (cond c (Some e.1) (find spot_cmp q es))
    go true true is here rest =
        ap (λ (d : Bool). cond d (Some e.1) (find listing_cmp q (filter p es))) (same_test q e.0 ∙ here)
        ∙ sym (ap (λ (d : Bool). cond d (Some e.1) None) (same_entry here ∙ is))
    go true false is here rest = ap (λ (d : Bool). cond d (Some e.1) (find listing_cmp q (filter p es))) (same_test q e.0 ∙ here) ∙ rest
    go false true is here rest =
        let first = first_so (below_all spot_cmp e.0 es) (is_sorted spot_cmp es) sorted in
        let none = none_below q es (subst (λ (s : Spot). below_all spot_cmp s es ≡ true) (sym (same_spot q e.0 here)) first) in
        rest ∙ ap (kept p q) none ∙ sym (ap (λ (d : Bool). cond d (Some e.1) None) (same_entry here ∙ is))
    go false false is here rest = rest

-- what a run of a list says at the spot where it starts
said : (f : Spot → Option Mark) (rs : List Run) → AllByRecursion (λ r. f (start_of r) ≡ Some r.mark) rs → (q : Spot) (v : Mark) →
    find listing_cmp q (map entry_of rs) ≡ Some v → f q ≡ Some v
said f [] each q v found = absurd (cc found)
said f (r ∷ rs) each q v found = go (said f rs each.1 q v) (eq_by_cmp listing_cmp q (start_of r)) refl found
  where
    go : (find listing_cmp q (map entry_of rs) ≡ Some v → f q ≡ Some v) → (b : Bool) → eq_by_cmp listing_cmp q (start_of r) ≡ b → cond b (Some r.mark) (find listing_cmp q (map entry_of rs)) ≡ Some v → f q ≡ Some v
    go later true here h = ap f (same_spot q (start_of r) (sym (same_test q (start_of r)) ∙ here)) ∙ each.0 ∙ h
    go later false here h = later h

is_some-entries : (rs : List Run) (q : Spot) → is_some (find listing_cmp q (map entry_of rs)) ≡ list_any (eq_by_cmp spot_cmp q) (map start_of rs)
is_some-entries [] q = refl
is_some-entries (r ∷ rs) q =
    ap (λ (b : Bool). is_some (cond b (Some r.mark) (find listing_cmp q (map entry_of rs)))) (same_test q (start_of r))
    ∙ go (is_some-entries rs q) (eq_by_cmp spot_cmp q (start_of r))
  where
    go : is_some (find listing_cmp q (map entry_of rs)) ≡ list_any (eq_by_cmp spot_cmp q) (map start_of rs) → (b : Bool) → is_some (cond b (Some r.mark) (find listing_cmp q (map entry_of rs))) ≡ (b || list_any (eq_by_cmp spot_cmp q) (map start_of rs))
    go rest true = refl
    go rest false = rest

same_option : (o u : Option Mark) → ((v : Mark) → o ≡ Some v → u ≡ Some v) → ((v : Mark) → u ≡ Some v → is_some o ≡ true) → o ≡ u
same_option (Some v) u one other = sym (one v refl)
same_option None None one other = refl
same_option None (Some v) one other = absurd (cc (other v refl))

kept_passes : (p : (Spot × Mark) → Bool) (q : Spot) (o : Option Mark) (v : Mark) → kept p q o ≡ Some v → (o ≡ Some v) × (p (q, v) ≡ true)
kept_passes p q None v e = absurd (cc e)
kept_passes p q (Some w) v e = go (p (q, w)) refl e
  where
    go : (b : Bool) → p (q, w) ≡ b → cond b (Some w) None ≡ Some v → (Some w ≡ Some v) × (p (q, v) ≡ true)
    go true is h = let same : w ≡ v = cc h in (h, ap (λ (x : Mark). p (q, x)) (sym same) ∙ is)
    go false is h = absurd (cc h)

redrawn : (m : Marking) (rs : List Run) → AllByRecursion (λ r. run_from m (entry_of r) ≡ r) rs → map (run_from m) (map entry_of rs) ≡ rs
redrawn m [] each = refl
redrawn m (r ∷ rs) each = λ i. each.0 i ∷ redrawn m rs each.1 i

permuted : (P : Run → Type 0) (xs ys : List Run) → IsPermutation xs ys → AllByRecursion P xs → AllByRecursion P ys
permuted P xs ys same each = recursion_from_All P ys (All-permutation P xs ys same (All-from_recursion P xs each))

-- ---- runs in order

module _ (rs : List Run) (good : AreRuns rs) where
  marked : (r : Run) → IsListed rs r → get (marking_of (map meant rs)) (start_of r) ≡ Some r.mark
  marked r l =
      get-runs rs (start_of r) ∙ held_of rs (start_of r) r (l.found (start_of r) (spot_of r (start_of r) refl (omega arith) l.ordered))

  starts : (r : Run) → IsListed rs r →
      kept (is_start (marking_of (map meant rs))) (start_of r) (get (marking_of (map meant rs)) (start_of r)) ≡ Some r.mark
  starts r l =
      let m = marking_of (map meant rs) in
      let w = l.whole in
      ap (kept (is_start m) (start_of r)) (marked r l)
      ∙ ap (λ (b : Bool). cond b (Some r.mark) None)
      (start_test m (start_of r) r.mark (λ apart same. w.first apart (sym (get-runs rs (r.key, r.start - 1)) ∙ same)))

  ends : (r : Run) → IsListed rs r → run_from (marking_of (map meant rs)) (entry_of r) ≡ r
  ends r l =
      let m = marking_of (map meant rs) in
      let w = l.whole in
      let ordered = l.ordered in
      let bounded = w.in_range in
      let end = same_end m r.key r.mark (row_around m r.key r.mark r.start (marked r l) (omega arith))
      (run_row rs good r r.start (omega arith) ordered l.found w) in
      λ i. record { key = r.key; start = r.start; end = end i; mark = r.mark }

  pub in_order : (sorted : List Run) → IsPermutation rs sorted → IsSortedBy before sorted → sorted ≡ runs_in_order (marking_of (map meant rs))
  in_order sorted same up =
      let m = marking_of (map meant rs) in
      let each = each_listed rs good in
      let spots = IsPermutation-map start_of rs sorted same in
      let distinct = IsDistinct-IsPermutation (eq_by_cmp spot_cmp) (eq_by_cmp_equiv spots_total).symm (map start_of rs) (map start_of sorted) spots
      (distinct_starts rs good.apart) in
      let at : Spot → Option Mark = λ q. kept (is_start m) q (get m q) in
      let found : (q : Spot) → find listing_cmp q (starts_in_order m) ≡ at q = λ q.
      sym (get-entries (from_entries {R = listing_cmp} (filter (is_start m) (entries m))) q)
      ∙ get-from_entries listing_total (filter (is_start m) (entries m)) q
      ∙ find-filter (is_start m) (entries m) (truth _ (entries_sorted m)) q
      ∙ ap (kept (is_start m) q) (sym (get-entries m q)) in
      let listed : (q : Spot) (v : Mark) → at q ≡ Some v → is_some (find listing_cmp q (map entry_of sorted)) ≡ true = λ q v is.
      let passes = kept_passes (is_start m) q (get m q) v is in
      is_some-entries sorted q
      ∙ sym (list_any-IsPermutation (eq_by_cmp spot_cmp q) (map start_of rs) (map start_of sorted) spots)
      ∙ start_listed rs good q (start_words m q v passes.0 passes.1) in
      let finds : (q : Spot) → find listing_cmp q (map entry_of sorted) ≡ find listing_cmp q (starts_in_order m) = λ q.
      same_option _ (at q)
      (λ v is. said at sorted (permuted (λ r. at (start_of r) ≡ Some r.mark) rs sorted same
      (all_weaker (IsListed rs) (λ r. at (start_of r) ≡ Some r.mark) starts rs each)) q v is)
      (listed q)
      ∙ sym (found q) in
      sym (redrawn m sorted (permuted (λ r. run_from m (entry_of r) ≡ r) rs sorted same
      (all_weaker (IsListed rs) (λ r. run_from m (entry_of r) ≡ r) ends rs each)))
      ∙ ap (map (run_from m))
      (same_entries listing_cmp listing_total exact_listing (map entry_of sorted) (starts_in_order m)
      (subst T (sym (rising sorted up distinct)) tt)
      (entries_sorted (from_entries {R = listing_cmp} (filter (is_start m) (entries m)))) finds)
