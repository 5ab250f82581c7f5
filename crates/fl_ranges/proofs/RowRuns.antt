-- The runs of rows: they are runs, and give a spot the mark that the spans of its key's row give.
use Rattle.std.proofs.Common.{◌≡◌, ◌≢◌, ℕ, zero, suc, ◌-◌, Bool, true, false, cond, Option, Some, None, List, [], ◌∷◌}
use Rattle.std.proofs.Common.{◌++◌, map, length, get_or, refl, ap, sym}
use Rattle.std.proofs.Common.{◌∙◌, subst, arith}
use Rattle.std.proofs.lemmas.Bool.{false_from_ne_true}
use Rattle.std.proofs.lemmas.Cmp.{on_total, then_total}
use Rattle.std.proofs.lemmas.List.Concat.{flat_map-append}
use Rattle.std.specs.List.{flat_map, AllByRecursion}
use Rattle.std.specs.Option.{option_or}
use Rattle.std.specs.Ordering.{eq_by_cmp, is_lt}
use Rattle.std.specs.Cmp.{IsTotalOrder, eq_by_cmp_equiv, nat_cmp_total, tied_itself}
use Rattle.std.specs.FinMap.{get}
use Rattle.fl_spans.specs.declared.span.Span.{Span}
use Rattle.fl_spans.specs.Spans.{mark_at, IsSpan, AreSpans}
use Rattle.fl_marks.specs.declared.lock.Key.{Key}
use Rattle.fl_marks.specs.declared.lock.Mark.{Mark}
use Rattle.fl_marks.specs.declared.run.Run.{Run}
use Rattle.fl_marks.specs.Marking.{class_number, key_cmp, Spot, marking_of}
use Rattle.fl_marks.specs.Runs.{runs}
use Rattle.fl_ranges.specs.Placing.{home}
use Rattle.fl_ranges.specs.Inside.RunList.{has_spot, run_at, held_at, AreApart, IsWhole, AreRuns}
use Rattle.fl_ranges.specs.Setting.{meant}
use Rattle.fl_ranges.specs.Inside.LockRows.{LockRow, place_cmp, key_precedes, AreInOrder}
use Rattle.fl_ranges.specs.Layout.{run_of, runs_of, runs_in}
use Rattle.fl_ranges.specs.Inside.LockRows.{spans_of, AreOnChain, AreLockRows}
use Rattle.fl_ranges.proofs.Markings.{keys_total}
use Rattle.fl_ranges.proofs.Spots.{same_key, key_itself}
use Rattle.fl_ranges.proofs.RunLists.{at_spot}
use Rattle.fl_ranges.proofs.Counting.{get-runs, runs_length}
use Rattle.fl_ranges.proofs.Each.{all_weaker, all_both, all_append}
use Rattle.fl_ranges.proofs.SpanMarks.{Begins, begin_all, each_span, held_row, unheld, held_append, apart_row}
use Rattle.fl_ranges.proofs.SpanMarks.{apart_append}

-- ---- keys

pub keys_placed : IsTotalOrder place_cmp
keys_placed =
    then_total (then_total (on_total (λ (k : Key). k.node) nat_cmp_total) (on_total (λ (k : Key). class_number k.class) nat_cmp_total))
    (on_total (λ (k : Key). k.owner) nat_cmp_total)

pub turned_key : (a b : Key) → eq_by_cmp key_cmp a b ≡ false → eq_by_cmp key_cmp b a ≡ false
turned_key a b other = sym ((eq_by_cmp_equiv keys_total).symm a b) ∙ other

-- a key that goes before another isn't that one
pub before_differs : (a b : Key) → key_precedes a b ≡ true → eq_by_cmp key_cmp b a ≡ false
before_differs a b before = false_from_ne_true _ (λ same.
    let is : b ≡ a = same_key b a same in
    cc (sym before ∙ ap (key_precedes a) is ∙ ap is_lt (tied_itself keys_placed a)))

-- ---- rows of different keys

-- the row isn't the key's
abbrev pub IsOther : Key → LockRow → Type 0
IsOther key r = eq_by_cmp key_cmp r.key key ≡ false

-- no two rows are of one key
abbrev pub AreDistinct : List LockRow → Type 0
AreDistinct [] = Unit {0}
AreDistinct (r ∷ rs) = AllByRecursion (IsOther r.key) rs × AreDistinct rs

pub no_spans : (key : Key) (rs : List LockRow) → AllByRecursion (IsOther key) rs → spans_of key rs ≡ []
no_spans key [] each = refl
no_spans key (r ∷ rs) each = ap (λ (b : Bool). cond b r.runs (spans_of key rs)) each.0 ∙ no_spans key rs each.1

or_nothing : (o : Option Mark) → option_or o None ≡ o
or_nothing None = refl
or_nothing (Some m) = refl

-- the mark that the runs of rows give a spot
pub held_rows : (rs : List LockRow) → AreDistinct rs → (q : Spot) → held_at (runs_in rs) q ≡ mark_at (spans_of q.0 rs) q.1
held_rows [] distinct q = refl
held_rows (r ∷ rs) distinct q =
    held_append (runs_of r) (runs_in rs) q
    ∙ (λ i. option_or (held_row r.key r.runs q i) (held_rows rs distinct.1 q i))
    ∙ go (eq_by_cmp key_cmp r.key q.0) refl
  where
    go : (b : Bool) → eq_by_cmp key_cmp r.key q.0 ≡ b →
        option_or (cond b (mark_at r.runs q.1) None) (mark_at (spans_of q.0 rs) q.1) ≡ mark_at (cond b r.runs (spans_of q.0 rs)) q.1
    go true same =
        let none = no_spans q.0 rs (subst (λ (k : Key). AllByRecursion (IsOther k) rs) (same_key r.key q.0 same) distinct.0) in
        ap (λ (ss : List (Span Mark)). option_or (mark_at r.runs q.1) (mark_at ss q.1)) none ∙ or_nothing (mark_at r.runs q.1)
    go false other = refl

own_spans : (rs : List LockRow) → AreDistinct rs → AllByRecursion (λ (r : LockRow). spans_of r.key rs ≡ r.runs) rs
own_spans [] distinct = tt
own_spans (r ∷ rs) distinct = (
  ap (λ (b : Bool). cond b r.runs (spans_of r.key rs)) (key_itself r.key),
  all_weaker (λ (x : LockRow). IsOther r.key x × (spans_of x.key rs ≡ x.runs)) (λ (x : LockRow). spans_of x.key (r ∷ rs) ≡ x.runs)
      (λ x h. ap (λ (b : Bool). cond b r.runs (spans_of x.key rs)) (turned_key x.key r.key h.0) ∙ h.1) rs
      (all_both (IsOther r.key) (λ (x : LockRow). spans_of x.key rs ≡ x.runs) rs distinct.0 (own_spans rs distinct.1)),
)

apart_rows : (rs : List LockRow) → AreDistinct rs → AllByRecursion (λ (r : LockRow). AreSpans r.runs) rs → AreApart (runs_in rs)
apart_rows [] distinct are = tt
apart_rows (r ∷ rs) distinct are =
    apart_append (runs_of r) (runs_in rs) (apart_row r.key r.runs are.0) (apart_rows rs distinct.1 are.1) (clear r.runs)
  where
    clear : (ss : List (Span Mark)) → AllByRecursion (λ (x : Run). (q : Spot) → has_spot q x ≡ true → run_at (runs_in rs) q ≡ None) (map (run_of r.key) ss)
    clear [] = tt
    clear (s ∷ ss) = (
      λ q has.
          let at = at_spot (run_of r.key s) q has in
          unheld (runs_in rs) q (held_rows rs distinct.1 q
          ∙ ap (λ (ts : List (Span Mark)). mark_at ts q.1)
          (no_spans q.0 rs (subst (λ (k : Key). AllByRecursion (IsOther k) rs) at.key distinct.0))),
      clear ss,
    )

-- rows of different keys, each with spans, are runs
pub rows_runs : (all : List LockRow) → AreDistinct all → AllByRecursion (λ (r : LockRow). AreSpans r.runs) all → AreRuns (runs_in all)
rows_runs all distinct are = record { apart = apart_rows all distinct are; whole = go all (own_spans all distinct) are }
  where
    of_row : (r : LockRow) → spans_of r.key all ≡ r.runs → (ss : List (Span Mark)) → AllByRecursion (λ (s : Span Mark). IsSpan s) ss →
        AllByRecursion (Begins r.runs) ss → AllByRecursion (IsWhole (held_at (runs_in all))) (map (run_of r.key) ss)
    of_row r own [] spans begins = tt
    of_row r own (s ∷ ss) spans begins = (
      record {
        in_range = spans.0.bounded;
        first = λ later held. begins.0 later
            (sym (ap (λ (ts : List (Span Mark)). mark_at ts (s.start - 1)) own) ∙ sym (held_rows all distinct (r.key, s.start - 1)) ∙ held);
      },
      of_row r own ss spans.1 begins.1,
    )

    go : (rs : List LockRow) → AllByRecursion (λ (r : LockRow). spans_of r.key all ≡ r.runs) rs →
        AllByRecursion (λ (r : LockRow). AreSpans r.runs) rs → AllByRecursion (IsWhole (held_at (runs_in all))) (runs_in rs)
    go [] own these = tt
    go (r ∷ rs) own these =
        all_append (IsWhole (held_at (runs_in all))) (runs_of r) (runs_in rs) (of_row r own.0 r.runs (each_span r.runs these.0) (begin_all r.runs these.0))
        (go rs own.1 these.1)

-- ---- chains of rows

-- all rows, chain after chain
abbrev pub rows_in : List (List LockRow) → List LockRow
rows_in lists = flat_map (λ (rs : List LockRow). rs) lists

pub same_runs : (lists : List (List LockRow)) → flat_map runs_in lists ≡ runs_in (rows_in lists)
same_runs [] = refl
same_runs (rs ∷ rss) = ap (λ (l : List Run). runs_in rs ++ l) (same_runs rss) ∙ sym (flat_map-append runs_of rs (rows_in rss))

each_row : (P : LockRow → Type 0) (lists : List (List LockRow)) → ((c : ℕ) → AllByRecursion P (get_or lists c [])) → AllByRecursion P (rows_in lists)
each_row P [] each = tt
each_row P (rs ∷ rss) each = all_append P rs (rows_in rss) (each 0) (each_row P rss (λ c. each (suc c)))

distinct_chain : (rs : List LockRow) → AreInOrder rs → AreDistinct rs
distinct_chain [] order = tt
distinct_chain (r ∷ rs) order = (
  all_weaker (λ (x : LockRow). key_precedes r.key x.key ≡ true) (IsOther r.key) (λ x before. before_differs r.key x.key before) rs order.0,
  distinct_chain rs order.1,
)

distinct_append : (xs ys : List LockRow) → AreDistinct xs → AreDistinct ys → AllByRecursion (λ (x : LockRow). AllByRecursion (IsOther x.key) ys) xs →
    AreDistinct (xs ++ ys)
distinct_append [] ys first second apart = second
distinct_append (x ∷ xs) ys first second apart = (all_append (IsOther x.key) xs ys first.0 apart.0, distinct_append xs ys first.1 second apart.1)

pub spans_first : (key : Key) (xs ys : List LockRow) → spans_of key ys ≡ [] → spans_of key (xs ++ ys) ≡ spans_of key xs
spans_first key [] ys none = none
spans_first key (x ∷ xs) ys none = ap (λ (ss : List (Span Mark)). cond (eq_by_cmp key_cmp x.key key) x.runs ss) (spans_first key xs ys none)

pub spans_second : (key : Key) (xs ys : List LockRow) → AllByRecursion (IsOther key) xs → spans_of key (xs ++ ys) ≡ spans_of key ys
spans_second key [] ys others = refl
spans_second key (x ∷ xs) ys others =
    ap (λ (b : Bool). cond b x.runs (spans_of key (xs ++ ys))) others.0 ∙ spans_second key xs ys others.1

module _ (chains : ℕ) where
  pub other_home : (key : Key) (r : LockRow) → home chains r.key.node ≢ home chains key.node → IsOther key r
  other_home key r differ = false_from_ne_true _ (λ same. differ (ap (λ (k : Key). home chains k.node) (same_key r.key key same)))

  -- the rows on chains that have another number
  away : (number : ℕ → ℕ) (n : ℕ) → ((c : ℕ) → number c ≢ n) → (lists : List (List LockRow)) → ((c : ℕ) → AreOnChain chains (number c) (get_or lists c [])) →
      AllByRecursion (λ (r : LockRow). home chains r.key.node ≢ n) (rows_in lists)
  away number n differ lists on = each_row (λ (r : LockRow). home chains r.key.node ≢ n) lists (λ c.
      all_weaker (λ (r : LockRow). home chains r.key.node ≡ number c) (λ (r : LockRow). home chains r.key.node ≢ n) (λ r is same. differ c (sym is ∙ same)) (get_or lists c [])
      (on c))

  others_away : (key : Key) (rs : List LockRow) → AllByRecursion (λ (r : LockRow). home chains r.key.node ≢ home chains key.node) rs → AllByRecursion (IsOther key) rs
  others_away key rs each = all_weaker (λ (r : LockRow). home chains r.key.node ≢ home chains key.node) (IsOther key) (λ r differ. other_home key r differ) rs each

  distinct_lists : (number : ℕ → ℕ) → ((c d : ℕ) → number c ≡ number d → c ≡ d) → (lists : List (List LockRow)) →
      ((c : ℕ) → AreOnChain chains (number c) (get_or lists c [])) → ((c : ℕ) → AreInOrder (get_or lists c [])) → AreDistinct (rows_in lists)
  distinct_lists number apart [] on order = tt
  distinct_lists number apart (rs ∷ rss) on order =
      let rest : AllByRecursion (λ (y : LockRow). home chains y.key.node ≢ number 0) (rows_in rss) =
      away (λ c. number (suc c)) (number 0) (λ c same. let no = apart (suc c) 0 same in omega (arith, no)) rss (λ c. on (suc c)) in
      distinct_append rs (rows_in rss) (distinct_chain rs (order 0))
      (distinct_lists (λ c. number (suc c)) (λ c d same. let next = apart (suc c) (suc d) same in omega (arith, next)) rss (λ c. on (suc c)) (λ c. order (suc c)))
      (all_weaker (λ (x : LockRow). home chains x.key.node ≡ number 0) (λ (x : LockRow). AllByRecursion (IsOther x.key) (rows_in rss))
      (λ x is. others_away x.key (rows_in rss) (subst (λ (n : ℕ). AllByRecursion (λ (y : LockRow). home chains y.key.node ≢ n) (rows_in rss)) (sym is) rest)) rs (on 0))

  -- the spans of a key's row stand on the key's chain
  spans_there : (number : ℕ → ℕ) → ((c d : ℕ) → number c ≡ number d → c ≡ d) → (lists : List (List LockRow)) →
      ((c : ℕ) → AreOnChain chains (number c) (get_or lists c [])) → (key : Key) (i : ℕ) → home chains key.node ≡ number i →
      spans_of key (rows_in lists) ≡ spans_of key (get_or lists i [])
  spans_there number apart [] on key i there = refl
  spans_there number apart (rs ∷ rss) on key zero there =
      spans_first key rs (rows_in rss) (no_spans key (rows_in rss) (others_away key (rows_in rss)
      (away (λ c. number (suc c)) (home chains key.node) (λ c same. let no = apart (suc c) 0 (same ∙ there) in omega (arith, no)) rss (λ c. on (suc c)))))
  spans_there number apart (rs ∷ rss) on key (suc i) there =
      spans_second key rs (rows_in rss) (all_weaker (λ (r : LockRow). home chains r.key.node ≡ number 0) (IsOther key)
      (λ r is. other_home key r (λ same. let no = apart 0 (suc i) (sym is ∙ same ∙ there) in omega (arith, no))) rs (on 0))
      ∙ spans_there (λ c. number (suc c)) (λ c d same. let next = apart (suc c) (suc d) same in omega (arith, next)) rss (λ c. on (suc c)) key i there

-- ---- all chains

module _ {chains : ℕ} (lists : List (List LockRow)) (kept : (c : ℕ) → AreLockRows chains c (get_or lists c [])) where
  distinct_all : AreDistinct (rows_in lists)
  distinct_all = distinct_lists chains (λ c. c) (λ c d same. same) lists (λ c. (kept c).at_home) (λ c. (kept c).in_order)

  -- the rows of a table are runs
  pub rows_are_runs : AreRuns (flat_map runs_in lists)
  rows_are_runs = subst AreRuns (sym (same_runs lists))
      (rows_runs (rows_in lists) distinct_all (each_row (λ (r : LockRow). AreSpans r.runs) lists (λ c. (kept c).spans)))

  -- the mark that they give a spot is the one that the spans of its key's row give
  pub mark_kept : (q : Spot) → get (marking_of (map meant (flat_map runs_in lists))) q ≡ mark_at (spans_of q.0 (get_or lists (home chains q.0.node) [])) q.1
  mark_kept q =
      get-runs (flat_map runs_in lists) q
      ∙ ap (λ (l : List Run). held_at l q) (same_runs lists)
      ∙ held_rows (rows_in lists) distinct_all q
      ∙ ap (λ (ss : List (Span Mark)). mark_at ss q.1)
      (spans_there chains (λ c. c) (λ c d same. same) lists (λ c. (kept c).at_home) q.0 (home chains q.0.node) refl)

  pub runs_kept : runs (marking_of (map meant (flat_map runs_in lists))) ≡ length (flat_map runs_in lists)
  runs_kept = runs_length (flat_map runs_in lists) rows_are_runs
