-- The rows of a node, taken out of its chain one after another.
use Rattle.std.proofs.Common.{◌≡◌, ◌≢◌, ℕ, zero, suc, ◌+◌, ◌<◌, ◌≤◌, Bool, true, false, cond, ◌||◌, ◌==◌, Some, None}
use Rattle.std.proofs.Common.{List, [], ◌∷◌, take, drop, length, set}
use Rattle.std.proofs.Common.{remove, slice_get, get_or, refl, ap, sym, ◌∙◌, subst, arith}
use Rattle.std.proofs.lemmas.Bool.{eqb-true, eq-eqb, false_from_ne_true}
use Rattle.std.proofs.lemmas.Bool.Decides.{nat_tests}
use Rattle.std.proofs.lemmas.List.{take-append-drop, get_or-set_same}
use Rattle.std.specs.List.{AllByRecursion}
use Rattle.std.specs.Ordering.{nat_cmp, ordering_then, eq_by_cmp, is_lt}
use Rattle.std.specs.FinMap.{get, same_map}
use Rattle.fl_arena.specs.declared.cursors.Cursor.{Cursor}
use Rattle.fl_spans.specs.declared.span.Span.{Span}
use Rattle.fl_spans.specs.Spans.{mark_at}
use Rattle.fl_spans.specs.Rows.{row_lists, rows, keys, limit_of, row_cursor, HasRoomOf, IsRow}
use Rattle.fl_marks.specs.declared.lock.Key.{Key}
use Rattle.fl_marks.specs.declared.lock.Mark.{Mark}
use Rattle.fl_marks.specs.Marking.{class_number, key_cmp, Spot, Marking, stroked}
use Rattle.fl_marks.specs.Runs.{without_node}
use Rattle.fl_ranges.specs.Placing.{home}
use Rattle.fl_ranges.specs.Inside.LockRows.{LockRow, LockRows, key_precedes, AreInOrder, row_marks, row_index, has_row}
use Rattle.fl_ranges.specs.Inside.LockRows.{spans_of, IsLockTable}
use Rattle.fl_ranges.proofs.Markings.{spots_total, exact_spots, get-stroked, get-without_node}
use Rattle.fl_ranges.proofs.Spots.{same_key, key_itself, within, home_less}
use Rattle.fl_ranges.proofs.Each.{all_weaker, all_append}
use Rattle.fl_ranges.proofs.RowRuns.{IsOther, no_spans, before_differs, mark_kept}
use Rattle.fl_ranges.proofs.RowPlaces.{IsHere, row_here, index_more, index_end}
use Rattle.fl_ranges.proofs.RowStrokes.{removed_here, erased_here, erased_kept}

-- the row is of another node
abbrev pub IsOff : ℕ → LockRow → Type 0
IsOff node r = r.key.node ≢ node

-- ---- the place of a row in order

not_itself : (key : Key) → key_precedes key key ≡ false
not_itself key = false_from_ne_true _ (λ before. cc (sym (before_differs key key before) ∙ key_itself key))

-- a row of a list in order stands at its key's place
pub own_index : (rs : List LockRow) (j : ℕ) (r : LockRow) (more : List LockRow) → AreInOrder rs → drop j rs ≡ r ∷ more → row_index r.key rs ≡ j
own_index [] zero r more order here = absurd (cc here)
own_index [] (suc j) r more order here = absurd (cc here)
own_index (x ∷ xs) zero r more order here =
    let is : x ≡ r = cc here in
    index_end r.key x xs (ap (λ (y : LockRow). key_precedes y.key r.key) is ∙ not_itself r.key)
own_index (x ∷ xs) (suc j) r more order here =
    let rest = own_index xs j r more order.1 here in
    index_more r.key x xs (later xs j order.0 here) ∙ ap suc rest
  where
    later : (ys : List LockRow) (i : ℕ) → AllByRecursion (λ (y : LockRow). key_precedes x.key y.key ≡ true) ys → drop i ys ≡ r ∷ more →
        key_precedes x.key r.key ≡ true
    later [] zero each at = absurd (cc at)
    later [] (suc i) each at = absurd (cc at)
    later (y ∷ ys) zero each at = let is : y ≡ r = cc at in ap (λ (z : LockRow). key_precedes x.key z.key) (sym is) ∙ each.0
    later (y ∷ ys) (suc i) each at = later ys i each.1 at

pub own_row : (rs : List LockRow) (j : ℕ) (r : LockRow) (more : List LockRow) → drop j rs ≡ r ∷ more → has_row r.key rs ≡ true
own_row [] zero r more here = absurd (cc here)
own_row [] (suc j) r more here = absurd (cc here)
own_row (x ∷ xs) zero r more here =
    let is : x ≡ r = cc here in
    ap (λ (b : Bool). b || has_row r.key xs) (ap (λ (y : LockRow). eq_by_cmp key_cmp y.key r.key) is ∙ key_itself r.key)
own_row (x ∷ xs) (suc j) r more here = either (eq_by_cmp key_cmp x.key r.key) (own_row xs j r more here)
  where
    either : (b : Bool) → has_row r.key xs ≡ true → (b || has_row r.key xs) ≡ true
    either true has = refl
    either false has = has

-- ---- rows of other nodes

pub off_marks : {chains : ℕ} (v : LockRows) → IsLockTable v (limit_of v) chains → (node : ℕ) → AllByRecursion (IsOff node) (rows v (home chains node)) →
    row_marks v ≡ without_node node (row_marks v)
off_marks {chains} v table node off = same_map spots_total exact_spots _ _ (λ q. go q (q.0.node == node) refl ∙ sym (get-without_node (row_marks v) node q))
  where
    go : (q : Spot) (b : Bool) → (q.0.node == node) ≡ b → get (row_marks v) q ≡ cond b None (get (row_marks v) q)
    go q true same =
        let is : q.0.node ≡ node = eqb-true q.0.node node same in
        mark_kept (row_lists v) table.kept q
        ∙ ap (λ (n : ℕ). mark_at (spans_of q.0 (rows v (home chains n))) q.1) is
        ∙ ap (λ (ss : List (Span Mark)). mark_at ss q.1) (no_spans q.0 (rows v (home chains node))
        (all_weaker (IsOff node) (IsOther q.0) (λ r differ. false_from_ne_true _ (λ own. differ (ap (λ (k : Key). k.node) (same_key r.key q.0 own) ∙ is)))
        (rows v (home chains node)) off))
    go q false differ = refl

less_node : (a b c d e f : ℕ) → is_lt (ordering_then (ordering_then (nat_cmp a b) (nat_cmp c d)) (nat_cmp e f)) ≡ true → a ≤ b
less_node a b c d e f before = grind (arith, nat_tests)

-- behind a row of a greater node all are of greater nodes
pub off_behind : (node : ℕ) (r : LockRow) (rs : List LockRow) → AreInOrder (r ∷ rs) → node < r.key.node → AllByRecursion (IsOff node) (r ∷ rs)
off_behind node r rs order past = (
  λ same. omega (arith, past, same),
  all_weaker (λ (x : LockRow). key_precedes r.key x.key ≡ true) (IsOff node)
      (λ x before same.
      let upto = less_node r.key.node x.key.node (class_number r.key.class) (class_number x.key.class) r.key.owner x.key.owner before in
      omega (arith, past, upto, same)) rs order.0,
)

pub off_all : (node : ℕ) (rs : List LockRow) (j : ℕ) → AllByRecursion (IsOff node) (take j rs) → AllByRecursion (IsOff node) (drop j rs) →
    AllByRecursion (IsOff node) rs
off_all node rs j before behind =
    subst (AllByRecursion (IsOff node)) (take-append-drop j rs) (all_append (IsOff node) (take j rs) (drop j rs) before behind)

pub off_more : (node : ℕ) (rs : List LockRow) (j : ℕ) (r : LockRow) (more : List LockRow) → drop j rs ≡ r ∷ more → r.key.node ≢ node →
    AllByRecursion (IsOff node) (take j rs) → AllByRecursion (IsOff node) (take (j + 1) rs)
off_more node [] zero r more here off before = absurd (cc here)
off_more node [] (suc j) r more here off before = absurd (cc here)
off_more node (x ∷ xs) zero r more here off before =
    let is : x ≡ r = cc here in
    (subst (IsOff node) (sym is) off, tt)
off_more node (x ∷ xs) (suc j) r more here off before =
    let next : suc j + 1 ≡ suc (j + 1) = omega arith in
    subst (λ (n : ℕ). AllByRecursion (IsOff node) (take n (x ∷ xs))) (sym next) (before.0, off_more node xs j r more here off before.1)

pub off_still : (node : ℕ) (rs : List LockRow) (j : ℕ) → AllByRecursion (IsOff node) (take j rs) → AllByRecursion (IsOff node) (take j (remove rs j))
off_still node rs zero before = tt
off_still node [] (suc j) before = tt
off_still node (x ∷ xs) (suc j) before = (before.0, off_still node xs j before.1)

-- ---- one row of the node taken out

pub off_stroked : (node : ℕ) (key : Key) (m : Marking) → key.node ≡ node →
    without_node node (stroked (record { key = key; start = 0; end = 9223372036854775807; mark = None }) m) ≡ without_node node m
off_stroked node key m of = same_map spots_total exact_spots _ _ (λ q.
    get-without_node (stroked (record { key = key; start = 0; end = 9223372036854775807; mark = None }) m) node q
    ∙ go q (q.0.node == node) refl ∙ sym (get-without_node m node q))
  where
    go : (q : Spot) (b : Bool) → (q.0.node == node) ≡ b →
        cond b None (get (stroked (record { key = key; start = 0; end = 9223372036854775807; mark = None }) m) q) ≡ cond b None (get m q)
    go q true same = refl
    go q false differ =
        get-stroked (record { key = key; start = 0; end = 9223372036854775807; mark = None }) m q
        ∙ ap (λ (b : Bool). cond b None (get m q)) (false_from_ne_true _ (λ own.
        let w = within (eq_by_cmp key_cmp key q.0) 0 q.1 9223372036854775807 own in
        absurd (cc (sym differ ∙ eq-eqb q.0.node node (sym (ap (λ (k : Key). k.node) (same_key key q.0 w.same)) ∙ of)))))

long_remove : (rs : List LockRow) (j : ℕ) (r : LockRow) (more : List LockRow) → drop j rs ≡ r ∷ more → length (remove rs j) + 1 ≡ length rs
long_remove [] zero r more here = absurd (cc here)
long_remove [] (suc j) r more here = absurd (cc here)
long_remove (x ∷ xs) zero r more here = omega arith
long_remove (x ∷ xs) (suc j) r more here = let rest = long_remove xs j r more here in omega (arith, rest)

pub within_here : (rs : List LockRow) (j : ℕ) (r : LockRow) (more : List LockRow) → drop j rs ≡ r ∷ more → j < length rs
within_here [] zero r more here = absurd (cc here)
within_here [] (suc j) r more here = absurd (cc here)
within_here (x ∷ xs) zero r more here = omega arith
within_here (x ∷ xs) (suc j) r more here = let rest = within_here xs j r more here in omega (arith, rest)

module _ {chains : ℕ} (v : LockRows) (table : IsLockTable v (limit_of v) chains) (node : ℕ) (row : Cursor) (at_row : IsRow v row) (chain : row.chain ≡ home chains node) (key : Key)
    (found : slice_get (keys (rows v row.chain)) row.index ≡ Some key) where
  pub here : IsHere (rows v (home chains node)) row.index key
  here = row_here (rows v (home chains node)) row.index key (ap (λ (c : ℕ). slice_get (keys (rows v c)) row.index) (sym chain) ∙ found)

  order : AreInOrder (rows v (home chains node))
  order = (table.kept (home chains node)).in_order

  module _ (of : key.node ≡ node) (w : LockRows) (is : row_lists w ≡ set (row_lists v) row.chain (remove (rows v row.chain) row.index))
      (size : HasRoomOf v w) where
    own_chain : home chains node ≡ home chains key.node
    own_chain = ap (home chains) (sym of)

    own_place : row_index key (rows v (home chains key.node)) ≡ row.index
    own_place =
        let h = here in
        ap (λ (c : ℕ). row_index key (rows v c)) (sym own_chain)
        ∙ ap (λ (k : Key). row_index k (rows v (home chains node))) (sym h.key_is)
        ∙ own_index (rows v (home chains node)) row.index h.row (drop (row.index + 1) (rows v (home chains node))) order h.rest

    at : row ≡ row_cursor v (home chains key.node) (row_index key (rows v (home chains key.node)))
    at = at_row.at ∙ (λ i. row_cursor v ((chain ∙ own_chain) i) (sym own_place i))

    has : has_row key (rows v (home chains key.node)) ≡ true
    has =
        let h = here in
        ap (λ (c : ℕ). has_row key (rows v c)) (sym own_chain)
        ∙ ap (λ (k : Key). has_row k (rows v (home chains node))) (sym h.key_is)
        ∙ own_row (rows v (home chains node)) row.index h.row (drop (row.index + 1) (rows v (home chains node))) h.rest

    pub gone_table : IsLockTable w (limit_of w) chains
    gone_table =
        subst (λ (n : ℕ). IsLockTable w n chains) (sym size.limit) (erased_kept v table key row at has w (removed_here v table key row at has w is) size)

    pub gone_marks : without_node node (row_marks w) ≡ without_node node (row_marks v)
    gone_marks = ap (without_node node) (erased_here v table key row at has w (removed_here v table key row at has w is))
        ∙ off_stroked node key (row_marks v) of

    pub gone_rows : rows w (home chains node) ≡ remove (rows v (home chains node)) row.index
    gone_rows =
        let less = home_less chains node table.some in
        let many = table.count in
        ap (λ (l : List (List LockRow)). get_or l (home chains node) []) (is ∙ (λ i. set (row_lists v) (chain i) (remove (rows v (chain i)) row.index)))
        ∙ get_or-set_same (row_lists v) (home chains node) (remove (rows v (home chains node)) row.index) [] (omega (arith, less, many))

    pub gone_long : length (rows w (home chains node)) + 1 ≡ length (rows v (home chains node))
    gone_long =
        let h = here in
        ap (λ (rs : List LockRow). length rs + 1) gone_rows
        ∙ long_remove (rows v (home chains node)) row.index h.row (drop (row.index + 1) (rows v (home chains node))) h.rest
