-- The place of a key's row: how a walk finds it, and what stands there after a change.
use Rattle.std.proofs.Common.{◌≡◌, ℕ, zero, suc, ◌+◌, Bool, true, false, cond, ◌||◌, Some, None, List, [], ◌∷◌, drop}
use Rattle.std.proofs.Common.{slice_get, refl, ap, sym, ◌∙◌}
use Rattle.std.proofs.Common.{arith}
use Rattle.std.proofs.lemmas.Option.{none-some}
use Rattle.std.specs.List.{insert, remove, AllByRecursion}
use Rattle.std.specs.Ordering.{eq_by_cmp}
use Rattle.fl_spans.specs.declared.span.Span.{Span}
use Rattle.fl_spans.specs.Rows.{keys, runs_at, with_runs}
use Rattle.fl_marks.specs.declared.lock.Key.{Key}
use Rattle.fl_marks.specs.declared.lock.Mark.{Mark}
use Rattle.fl_marks.specs.Marking.{key_cmp}
use Rattle.fl_ranges.specs.Inside.LockRows.{LockRow, key_precedes, AreInOrder, spans_of, row_index, has_row, row_before}
use Rattle.fl_ranges.specs.Inside.LockRows.{given_spans}
use Rattle.fl_ranges.proofs.Spots.{same_key}
use Rattle.fl_ranges.proofs.RowRuns.{IsOther, turned_key, before_differs}
use Rattle.fl_ranges.proofs.GivenSpans.{before_both, one_before, all_behind, behind_others}

-- ---- a walk along rows

-- the row of a key that a walk has reached
pub record IsHere (rs : List LockRow) (j : ℕ) (key : Key) : Type 0 where
  pub row : LockRow
  pub rest : drop j rs ≡ row ∷ drop (j + 1) rs
  pub key_is : row.key ≡ key

pub row_here : (rs : List LockRow) (j : ℕ) (key : Key) → slice_get (keys rs) j ≡ Some key → IsHere rs j key
row_here [] j key found = absurd (none-some key found)
row_here (r ∷ rs) zero key found = record { row = r; rest = refl; key_is = cc }
row_here (r ∷ rs) (suc j) key found =
    let h = row_here rs j key found in
    let next : suc j + 1 ≡ suc (j + 1) = omega arith in
    record { row = h.row; rest = h.rest ∙ ap (λ (n : ℕ). h.row ∷ drop n (r ∷ rs)) (sym next); key_is = h.key_is }

pub row_end : (rs : List LockRow) (j : ℕ) → slice_get (keys rs) j ≡ None → drop j rs ≡ []
row_end [] zero none = refl
row_end [] (suc j) none = refl
row_end (r ∷ rs) zero none = absurd (cc none)
row_end (r ∷ rs) (suc j) none = row_end rs j none

pub in_order_drop : (rs : List LockRow) (j : ℕ) → AreInOrder rs → AreInOrder (drop j rs)
in_order_drop rs zero order = order
in_order_drop [] (suc j) order = tt
in_order_drop (r ∷ rs) (suc j) order = in_order_drop rs j order.1

module _ (key : Key) (r : LockRow) (rs : List LockRow) where
  pub index_more : key_precedes r.key key ≡ true → row_index key (r ∷ rs) ≡ suc (row_index key rs)
  index_more before = rw before (omega arith)

  pub index_end : key_precedes r.key key ≡ false → row_index key (r ∷ rs) ≡ 0
  index_end before = rw before refl

  pub has_more : key_precedes r.key key ≡ true → has_row key (r ∷ rs) ≡ has_row key rs
  has_more before = ap (λ (b : Bool). b || has_row key rs) (turned_key key r.key (before_differs r.key key before))

none_has : (key : Key) (rs : List LockRow) → AllByRecursion (IsOther key) rs → has_row key rs ≡ false
none_has key [] each = refl
none_has key (r ∷ rs) each = ap (λ (b : Bool). b || has_row key rs) each.0 ∙ none_has key rs each.1

-- the first row that doesn't go before the key's is the key's, or none is
pub has_here : (key : Key) (r : LockRow) (rs : List LockRow) → AreInOrder (r ∷ rs) → key_precedes r.key key ≡ false →
    has_row key (r ∷ rs) ≡ eq_by_cmp key_cmp r.key key
has_here key r rs order before = go (eq_by_cmp key_cmp r.key key) refl
  where
    go : (b : Bool) → eq_by_cmp key_cmp r.key key ≡ b → (b || has_row key rs) ≡ b
    go true same = refl
    go false other = none_has key rs (behind_others key rs (all_behind key r rs (one_before r.key key before other) order.0))

-- ---- the rows before one that doesn't stand behind the key's

-- what goes before a key goes before another one that doesn't
up_to : (a b key : Key) → key_precedes a b ≡ true → key_precedes key b ≡ false → key_precedes a key ≡ true
up_to a b key before past = go (eq_by_cmp key_cmp key b) refl
  where
    go : (same : Bool) → eq_by_cmp key_cmp key b ≡ same → key_precedes a key ≡ true
    go true is = ap (key_precedes a) (same_key key b is) ∙ before
    go false is = before_both a b key before (one_before key b past is)

before_at : (key : Key) (rs : List LockRow) (j : ℕ) (other : Key) → AllByRecursion (λ (x : LockRow). key_precedes key x.key ≡ true) rs →
    slice_get (keys rs) j ≡ Some other → key_precedes key other ≡ true
before_at key [] j other each found = absurd (none-some other found)
before_at key (r ∷ rs) zero other each found = let is : r.key ≡ other = cc in sym (ap (key_precedes key) is) ∙ each.0
before_at key (r ∷ rs) (suc j) other each found = before_at key rs j other each.1 found

-- the place of the key's row is found from there on too
pub record IsSkipped (key : Key) (rs : List LockRow) (j : ℕ) : Type 0 where
  pub index : row_index key rs ≡ j + row_index key (drop j rs)
  pub own : has_row key rs ≡ has_row key (drop j rs)

pub skipped : (key : Key) (rs : List LockRow) (j : ℕ) (other : Key) → AreInOrder rs → slice_get (keys rs) j ≡ Some other →
    key_precedes key other ≡ false → IsSkipped key rs j
skipped key [] j other order found past = absurd (none-some other found)
skipped key (r ∷ rs) zero other order found past = record { index = omega arith; own = refl }
skipped key (r ∷ rs) (suc j) other order found past =
    let rest = skipped key rs j other order.1 found past in
    let before : key_precedes r.key key ≡ true = up_to r.key other key (before_at r.key rs j other order.0 found) past in
    record {
      index = omega (arith, index_more key r rs before, rest.index);
      own = has_more key r rs before ∙ rest.own;
    }

-- ---- a change at the place

pub inserted_row : (key : Key) (s : Span Mark) (rs : List LockRow) → AreInOrder rs → has_row key rs ≡ false →
    insert rs (row_index key rs) (record { key = key; runs = s ∷ [] }) ≡ given_spans key (s ∷ []) rs
inserted_row key s [] order none = refl
inserted_row key s (r ∷ rs) order none = go (inserted_row key s rs order.1) (key_precedes r.key key) (eq_by_cmp key_cmp r.key key) refl refl
  where
    go : (has_row key rs ≡ false → insert rs (row_index key rs) (record { key = key; runs = s ∷ [] }) ≡ given_spans key (s ∷ []) rs) → (b c : Bool) →
        key_precedes r.key key ≡ b → eq_by_cmp key_cmp r.key key ≡ c →
        insert (r ∷ rs) (row_index key (r ∷ rs)) (record { key = key; runs = s ∷ [] })
        ≡ cond b (r ∷ given_spans key (s ∷ []) rs) (cond c (row_before key (s ∷ []) rs) (row_before key (s ∷ []) (r ∷ rs)))
    go rest true c before same =
        ap (λ (n : ℕ). insert (r ∷ rs) n (record { key = key; runs = s ∷ [] })) (index_more key r rs before)
        ∙ ap (λ (l : List LockRow). r ∷ l) (rest (sym (has_more key r rs before) ∙ none))
    go rest false true before same = absurd (cc (sym none ∙ has_here key r rs order before ∙ same))
    go rest false false before same = ap (λ (n : ℕ). insert (r ∷ rs) n (record { key = key; runs = s ∷ [] })) (index_end key r rs before)

pub unchanged_rows : (key : Key) (rs : List LockRow) → AreInOrder rs → has_row key rs ≡ false → given_spans key [] rs ≡ rs
unchanged_rows key [] order none = refl
unchanged_rows key (r ∷ rs) order none = go (unchanged_rows key rs order.1) (key_precedes r.key key) (eq_by_cmp key_cmp r.key key) refl refl
  where
    go : (has_row key rs ≡ false → given_spans key [] rs ≡ rs) → (b c : Bool) → key_precedes r.key key ≡ b → eq_by_cmp key_cmp r.key key ≡ c →
        cond b (r ∷ given_spans key [] rs) (cond c rs (r ∷ rs)) ≡ r ∷ rs
    go rest true c before same = ap (λ (l : List LockRow). r ∷ l) (rest (sym (has_more key r rs before) ∙ none))
    go rest false true before same = absurd (cc (sym none ∙ has_here key r rs order before ∙ same))
    go rest false false before same = refl

pub no_row_spans : (key : Key) (rs : List LockRow) → has_row key rs ≡ false → spans_of key rs ≡ []
no_row_spans key [] none = refl
no_row_spans key (r ∷ rs) none = go (no_row_spans key rs) (eq_by_cmp key_cmp r.key key) none
  where
    go : (has_row key rs ≡ false → spans_of key rs ≡ []) → (b : Bool) → (b || has_row key rs) ≡ false → cond b r.runs (spans_of key rs) ≡ []
    go rest true h = absurd (cc h)
    go rest false h = rest h

pub changed_row : (key : Key) (ss : List (Span Mark)) (rs : List LockRow) → AreInOrder rs → has_row key rs ≡ true →
    with_runs rs (row_index key rs) ss ≡ given_spans key ss rs
changed_row key ss [] order has = absurd (cc has)
changed_row key ss (r ∷ rs) order has = go (changed_row key ss rs order.1) (key_precedes r.key key) (eq_by_cmp key_cmp r.key key) refl refl
  where
    here : r.key ≡ key → (l : List (Span Mark)) → with_runs (r ∷ rs) 0 l ≡ row_before key l rs
    here is [] = refl
    here is (s ∷ ts) = λ i. record { key = is i; runs = s ∷ ts } ∷ rs

    go : (has_row key rs ≡ true → with_runs rs (row_index key rs) ss ≡ given_spans key ss rs) → (b c : Bool) →
        key_precedes r.key key ≡ b → eq_by_cmp key_cmp r.key key ≡ c →
        with_runs (r ∷ rs) (row_index key (r ∷ rs)) ss
        ≡ cond b (r ∷ given_spans key ss rs) (cond c (row_before key ss rs) (row_before key ss (r ∷ rs)))
    go rest true c before same =
        ap (λ (n : ℕ). with_runs (r ∷ rs) n ss) (index_more key r rs before)
        ∙ ap (λ (l : List LockRow). r ∷ l) (rest (sym (has_more key r rs before) ∙ has))
    go rest false true before same = ap (λ (n : ℕ). with_runs (r ∷ rs) n ss) (index_end key r rs before) ∙ here (same_key r.key key same) ss
    go rest false false before same = absurd (cc (sym has ∙ has_here key r rs order before ∙ same))

pub row_spans : (key : Key) (rs : List LockRow) → AreInOrder rs → has_row key rs ≡ true → runs_at rs (row_index key rs) ≡ spans_of key rs
row_spans key [] order has = absurd (cc has)
row_spans key (r ∷ rs) order has = go (row_spans key rs order.1) (key_precedes r.key key) (eq_by_cmp key_cmp r.key key) refl refl
  where
    go : (has_row key rs ≡ true → runs_at rs (row_index key rs) ≡ spans_of key rs) → (b c : Bool) → key_precedes r.key key ≡ b →
        eq_by_cmp key_cmp r.key key ≡ c → runs_at (r ∷ rs) (row_index key (r ∷ rs)) ≡ cond c r.runs (spans_of key rs)
    go rest true true before same = absurd (cc (sym (turned_key key r.key (before_differs r.key key before)) ∙ same))
    go rest true false before same = ap (λ (n : ℕ). runs_at (r ∷ rs) n) (index_more key r rs before) ∙ rest (sym (has_more key r rs before) ∙ has)
    go rest false true before same = ap (λ (n : ℕ). runs_at (r ∷ rs) n) (index_end key r rs before)
    go rest false false before same = absurd (cc (sym has ∙ has_here key r rs order before ∙ same))

pub removed_row : (rs : List LockRow) (i : ℕ) → remove rs i ≡ with_runs rs i []
removed_row [] zero = refl
removed_row [] (suc i) = refl
removed_row (r ∷ rs) zero = refl
removed_row (r ∷ rs) (suc i) = ap (λ (l : List LockRow). r ∷ l) (removed_row rs i)
