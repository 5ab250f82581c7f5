-- A table in rows once one key's row has other spans: it is one again, with as many runs more, and other marks of that
-- key alone.
use Rattle.std.proofs.Common.{◌≡◌, ◌≢◌, ℕ, ◌+◌, ◌<◌, ◌≤◌, Bool, true, false, cond, ◌&&◌, ◌==◌, nat_le, Option, List, []}
use Rattle.std.proofs.Common.{◌∷◌, map, length, get_or}
use Rattle.std.proofs.Common.{set, refl, ap, sym, ◌∙◌, subst, arith, length-append, sum_by}
use Rattle.std.proofs.lemmas.Bool.{eqb-true, eq-eqb}
use Rattle.std.proofs.lemmas.List.{get_or-set_same, get_or-set_other, length-map}
use Rattle.std.proofs.lemmas.List.Concat.{length-flat_map}
use Rattle.std.proofs.lemmas.List.Sums.{sum_by-cons, sum_by-set}
use Rattle.std.specs.List.{flat_map}
use Rattle.std.specs.Ordering.{eq_by_cmp}
use Rattle.std.specs.FinMap.{get, same_map}
use Rattle.fl_spans.specs.declared.span.Span.{Span}
use Rattle.fl_spans.specs.Spans.{mark_at, AreSpans}
use Rattle.fl_spans.specs.Rows.{row_lists, rows, run_count, HasRoomOf}
use Rattle.fl_marks.specs.declared.lock.Key.{Key}
use Rattle.fl_marks.specs.declared.lock.Mark.{Mark}
use Rattle.fl_marks.specs.Marking.{key_cmp, Spot, Marking, stroked, marking_of}
use Rattle.fl_marks.specs.Runs.{runs}
use Rattle.fl_ranges.specs.Placing.{home}
use Rattle.fl_ranges.specs.Setting.{meant}
use Rattle.fl_ranges.specs.Inside.LockRows.{LockRow, LockRows, row_marks}
use Rattle.fl_ranges.specs.Layout.{run_of, runs_of, runs_in, table_runs}
use Rattle.fl_ranges.specs.Inside.LockRows.{spans_of, given_spans, AreLockRows, IsLockTable}
use Rattle.fl_ranges.proofs.Markings.{spots_total, exact_spots, get-stroked}
use Rattle.fl_ranges.proofs.Spots.{same_key, home_less}
use Rattle.fl_ranges.proofs.RowRuns.{mark_kept, runs_kept}
use Rattle.fl_ranges.proofs.GivenSpans.{spans_given, long_given, rows_given}

-- ---- numbers of runs

long_rows : (rs : List LockRow) → length (runs_in rs) ≡ sum_by (λ (r : LockRow). length r.runs) rs
long_rows [] = refl
long_rows (r ∷ rs) =
    let first = length-append (runs_of r) (runs_in rs) in
    let own = length-map r.runs (run_of r.key) in
    let rest = long_rows rs in
    omega (arith, first, own, rest, sum_by-cons (λ (r : LockRow). length r.runs) r rs)

long_lists : (lists : List (List LockRow)) → length (flat_map runs_in lists) ≡ sum_by (λ (rs : List LockRow). sum_by (λ (r : LockRow). length r.runs) rs) lists
long_lists [] = refl
long_lists (rs ∷ rss) =
    let all = length-append (runs_in rs) (flat_map runs_in rss) in
    let first = long_rows rs in
    let rest = long_lists rss in
    omega (arith, all, first, rest, sum_by-cons (λ (rs : List LockRow). sum_by (λ (r : LockRow). length r.runs) rs) rs rss)

pub long_table : (v : LockRows) → length (table_runs v) ≡ run_count v
long_table v = long_lists (row_lists v)

-- ---- one key's row

module _ {chains : ℕ} (lists : List (List LockRow)) (kept : (c : ℕ) → AreLockRows chains c (get_or lists c [])) (many : length lists ≡ chains)
    (some : 1 ≤ chains) (key : Key) (ss : List (Span Mark)) (are : AreSpans ss) where
  -- the rows of each chain afterwards
  abbrev pub after : List (List LockRow)
  after = set lists (home chains key.node) (given_spans key ss (get_or lists (home chains key.node) []))

  inside : home chains key.node < length lists
  inside = let less = home_less chains key.node some in omega (arith, less, many)

  at_home : get_or after (home chains key.node) [] ≡ given_spans key ss (get_or lists (home chains key.node) [])
  at_home = get_or-set_same lists (home chains key.node) (given_spans key ss (get_or lists (home chains key.node) [])) [] inside

  elsewhere : (c : ℕ) → c ≢ home chains key.node → get_or after c [] ≡ get_or lists c []
  elsewhere c other = get_or-set_other lists (home chains key.node) c (given_spans key ss (get_or lists (home chains key.node) [])) [] other

  pub kept_after : (c : ℕ) → AreLockRows chains c (get_or after c [])
  kept_after c = go (c == home chains key.node) refl
    where
      go : (b : Bool) → (c == home chains key.node) ≡ b → AreLockRows chains c (get_or after c [])
      go true same =
          let is : home chains key.node ≡ c = sym (eqb-true c (home chains key.node) same) in
          subst (λ (d : ℕ). AreLockRows chains d (get_or after d [])) is
          (subst (AreLockRows chains (home chains key.node)) (sym at_home) (rows_given key ss (get_or lists (home chains key.node) []) are (kept (home chains key.node))))
      go false differ =
          subst (AreLockRows chains c) (sym (elsewhere c (λ e. absurd (cc (sym differ ∙ eq-eqb c (home chains key.node) e))))) (kept c)

  spans_after : (k : Key) → spans_of k (get_or after (home chains k.node) []) ≡ cond (eq_by_cmp key_cmp key k) ss (spans_of k (get_or lists (home chains k.node) []))
  spans_after k = go (home chains k.node == home chains key.node) refl
    where
      go : (b : Bool) → (home chains k.node == home chains key.node) ≡ b →
          spans_of k (get_or after (home chains k.node) []) ≡ cond (eq_by_cmp key_cmp key k) ss (spans_of k (get_or lists (home chains k.node) []))
      go true same =
          let is : home chains key.node ≡ home chains k.node = sym (eqb-true (home chains k.node) (home chains key.node) same) in
          subst (λ (d : ℕ). spans_of k (get_or after d []) ≡ cond (eq_by_cmp key_cmp key k) ss (spans_of k (get_or lists d []))) is
          (ap (spans_of k) at_home ∙ spans_given key ss (get_or lists (home chains key.node) []) (kept (home chains key.node)).in_order k)
      go false differ =
          ap (spans_of k) (elsewhere (home chains k.node) (λ e. absurd (cc (sym differ ∙ eq-eqb (home chains k.node) (home chains key.node) e))))
          ∙ other (eq_by_cmp key_cmp key k) refl
        where
          other : (b : Bool) → eq_by_cmp key_cmp key k ≡ b → spans_of k (get_or lists (home chains k.node) []) ≡ cond b ss (spans_of k (get_or lists (home chains k.node) []))
          other true own =
              absurd (cc (sym differ ∙ eq-eqb (home chains k.node) (home chains key.node) (ap (λ (x : Key). home chains x.node) (sym (same_key key k own)))))
          other false own = refl

  -- the mark of a spot afterwards
  pub mark_after : (q : Spot) → get (marking_of (map meant (flat_map runs_in after))) q
      ≡ cond (eq_by_cmp key_cmp key q.0) (mark_at ss q.1) (get (marking_of (map meant (flat_map runs_in lists))) q)
  mark_after q =
      mark_kept after kept_after q ∙ ap (λ (l : List (Span Mark)). mark_at l q.1) (spans_after q.0) ∙ go (eq_by_cmp key_cmp key q.0)
    where
      go : (b : Bool) → mark_at (cond b ss (spans_of q.0 (get_or lists (home chains q.0.node) []))) q.1
          ≡ cond b (mark_at ss q.1) (get (marking_of (map meant (flat_map runs_in lists))) q)
      go true = refl
      go false = sym (mark_kept lists kept q)

  -- how many runs there are afterwards
  pub long_after : length (flat_map runs_in after) + length (spans_of key (get_or lists (home chains key.node) [])) ≡ length (flat_map runs_in lists) + length ss
  long_after =
      let swapped = sum_by-set (λ (rs : List LockRow). length (runs_in rs)) lists (home chains key.node) (given_spans key ss (get_or lists
      (home chains key.node) [])) [] inside in
      let was = length-flat_map runs_in lists in
      let is = length-flat_map runs_in after in
      let own = long_given key ss (get_or lists (home chains key.node) []) (kept (home chains key.node)).in_order in
      omega (arith, swapped, was, is, own)

  module _ (start end : ℕ) (mark : Option Mark)
      (marks : (b : ℕ) → mark_at ss b ≡ cond (nat_le start b && nat_le b end) mark (mark_at (spans_of key (get_or lists (home chains key.node) [])) b)) where
    -- a stroke on the key's spans is one on all marks
    pub stroked_after : marking_of (map meant (flat_map runs_in after))
        ≡ stroked (record { key = key; start = start; end = end; mark = mark }) (marking_of (map meant (flat_map runs_in lists)))
    stroked_after = same_map spots_total exact_spots _ _ (λ q.
        mark_after q ∙ go q (eq_by_cmp key_cmp key q.0) refl
        ∙ sym (get-stroked (record { key = key; start = start; end = end; mark = mark }) (marking_of (map meant (flat_map runs_in lists))) q))
      where
        go : (q : Spot) (b : Bool) → eq_by_cmp key_cmp key q.0 ≡ b →
            cond b (mark_at ss q.1) (get (marking_of (map meant (flat_map runs_in lists))) q)
            ≡ cond (b && (nat_le start q.1 && nat_le q.1 end)) mark (get (marking_of (map meant (flat_map runs_in lists))) q)
        go q true own =
            marks q.1 ∙ ap (λ (o : Option Mark). cond (nat_le start q.1 && nat_le q.1 end) mark o)
            (ap (λ (k : Key). mark_at (spans_of k (get_or lists (home chains k.node) [])) q.1) (same_key key q.0 own) ∙ sym (mark_kept lists kept q))
        go q false own = refl

    -- how many runs it leaves
    pub room_after : runs (stroked (record { key = key; start = start; end = end; mark = mark }) (marking_of (map meant (flat_map runs_in lists))))
        + length (spans_of key (get_or lists (home chains key.node) [])) ≡ length (flat_map runs_in lists) + length ss
    room_after = ap (λ (m : Marking). runs m + length (spans_of key (get_or lists (home chains key.node) []))) (sym stroked_after)
        ∙ ap (λ (n : ℕ). n + length (spans_of key (get_or lists (home chains key.node) []))) (runs_kept after kept_after) ∙ long_after

-- ---- a table

module _ {chains : ℕ} (v : LockRows) (limit : ℕ) (table : IsLockTable v limit chains) (key : Key) (ss : List (Span Mark)) (are : AreSpans ss) where
  -- the table once the key's row has these spans, if there is room for them
  pub table_given : (w : LockRows) → row_lists w ≡ set (row_lists v) (home chains key.node) (given_spans key ss (rows v (home chains key.node))) → HasRoomOf v w →
      run_count v + length ss ≤ limit + length (spans_of key (rows v (home chains key.node))) → IsLockTable w limit chains
  table_given w is size room =
      let long = long_after (row_lists v) table.kept table.count table.some key ss are in
      let was = long_table v in
      let now = long_table w in
      let all : length (table_runs w) ≡ length (flat_map runs_in (after (row_lists v) table.kept table.count table.some key ss are)) =
      ap (λ (l : List (List LockRow)). length (flat_map runs_in l)) is in
      record {
        count = size.chains ∙ table.count;
        some = table.some;
        room = size.limit ∙ table.room;
        small = table.small;
        few = omega (arith, long, was, now, all, room);
        kept = λ c. subst (λ (l : List (List LockRow)). AreLockRows chains c (get_or l c [])) (sym is)
            (kept_after (row_lists v) table.kept table.count table.some key ss are c);
      }

  module _ (start end : ℕ) (mark : Option Mark)
      (marks : (b : ℕ) → mark_at ss b ≡ cond (nat_le start b && nat_le b end) mark (mark_at (spans_of key (rows v (home chains key.node))) b)) where
    pub table_stroked : (w : LockRows) → row_lists w ≡ set (row_lists v) (home chains key.node) (given_spans key ss (rows v (home chains key.node))) →
        row_marks w ≡ stroked (record { key = key; start = start; end = end; mark = mark }) (row_marks v)
    table_stroked w is =
        ap (λ (l : List (List LockRow)). marking_of (map meant (flat_map runs_in l))) is
        ∙ stroked_after (row_lists v) table.kept table.count table.some key ss are start end mark marks

    pub table_room : runs (stroked (record { key = key; start = start; end = end; mark = mark }) (row_marks v)) + length (spans_of key (rows v (home chains key.node)))
        ≡ run_count v + length ss
    table_room = room_after (row_lists v) table.kept table.count table.some key ss are start end mark marks ∙ ap (λ (n : ℕ). n + length ss) (long_table v)
