-- A stroke on rows: on the row of its key, or on none.
use Rattle.std.proofs.Common.{◌≡◌, ◌≢◌, ◌↔◌, ℕ, ◌+◌, ◌<◌, ◌≤◌, Bool, true, false, cond, ◌&&◌, nat_le, Option, Some}
use Rattle.std.proofs.Common.{None, List, [], ◌∷◌, length, set}
use Rattle.std.proofs.Common.{insert, remove}
use Rattle.std.proofs.Common.{refl, ap, sym, ◌∙◌, subst, inl, inr, arith}
use Rattle.std.specs.Prelude.{Result, Ok, Err, IsErr, OnOk, OnErr}
use Rattle.std.proofs.lemmas.Bool.{cases_lt}
use Rattle.std.proofs.lemmas.List.{set-get_or}
use Rattle.std.specs.List.{AllByRecursion}
use Rattle.std.specs.Ordering.{eq_by_cmp}
use Rattle.fl_arena.specs.declared.cursors.Cursor.{Cursor}
use Rattle.fl_spans.specs.declared.span.Span.{Span}
use Rattle.fl_spans.specs.Spans.{mark_at, AreSpans}
use Rattle.fl_spans.specs.Row.{spans_at, with_spans}
use Rattle.fl_spans.specs.Rows.{row_lists, rows, limit_of, run_count, runs_at, with_runs, row_cursor, HasRoomOf}
use Rattle.fl_marks.specs.declared.lock.Key.{Key}
use Rattle.fl_marks.specs.declared.lock.Mark.{Mark}
use Rattle.fl_marks.specs.Marking.{key_cmp, stroked}
use Rattle.fl_marks.specs.Runs.{runs}
use Rattle.fl_ranges.specs.Placing.{home}
use Rattle.fl_ranges.specs.Inside.LockRows.{LockRow, LockRows, row_marks, row_index, has_row, spans_of, given_spans}
use Rattle.fl_ranges.specs.Inside.LockRows.{IsLockTable}
use Rattle.fl_ranges.proofs.SpanMarks.{in_time, none_past}
use Rattle.fl_ranges.proofs.RowPlaces.{inserted_row, unchanged_rows, no_row_spans, changed_row, row_spans, removed_row}
use Rattle.fl_ranges.proofs.RowTables.{table_given, table_stroked, table_room}

-- if a call is refused nothing has changed, and else what it says holds
pub either_way : {X E A B P : Type 0} (r : Result X E) → OnOk r A → OnErr r B → ((IsErr r → ⊥) → A → P) → (B → P) → P
either_way (Ok x) done left good bad = good (λ h. absurd (cc h)) done
either_way (Err e) done left good bad = bad left

pub then_ok : {X E A P : Type 0} (r : Result X E) → OnOk r A → (A → P) → OnOk r P
then_ok (Ok x) done good = good done
then_ok (Err e) done good = tt

-- if one number isn't less than another
no_less : (a b : ℕ) → (a < b → ⊥) → b ≤ a
no_less a b none = elim (cases_lt a b) [
  | inl less ↦ absurd (none less)
  | inr upto ↦ upto
]

spans_are : (key : Key) (rs : List LockRow) → AllByRecursion (λ (r : LockRow). AreSpans r.runs) rs → AreSpans (spans_of key rs)
spans_are key [] are = tt
spans_are key (r ∷ rs) are = go (eq_by_cmp key_cmp r.key key) (spans_are key rs are.1)
  where
    go : (b : Bool) → AreSpans (spans_of key rs) → AreSpans (cond b r.runs (spans_of key rs))
    go true rest = are.0
    go false rest = rest

nowhere : (b : Bool) (o : Option Mark) → o ≡ None → ◌≡◌ {A = Option Mark} None (cond b None o)
nowhere true o none = refl
nowhere false o none = sym none

module _ {chains : ℕ} (v : LockRows) (table : IsLockTable v (limit_of v) chains) (key : Key) where
  -- ---- the key has a row

  module _ (row : Cursor) (at : row ≡ row_cursor v (home chains key.node) (row_index key (rows v (home chains key.node)))) where
    chain : row.chain ≡ home chains key.node
    chain = ap (λ (k : Cursor). k.chain) at

    index : row.index ≡ row_index key (rows v (home chains key.node))
    index = ap (λ (k : Cursor). k.index) at

    module _ (has : has_row key (rows v (home chains key.node)) ≡ true) where
      pub spans_here : spans_at v row ≡ spans_of key (rows v (home chains key.node))
      spans_here = (λ i. runs_at (rows v (chain i)) (index i)) ∙ row_spans key (rows v (home chains key.node)) (table.kept (home chains key.node)).in_order has

      pub are_here : AreSpans (spans_at v row)
      are_here = subst AreSpans (sym spans_here) (spans_are key (rows v (home chains key.node)) (table.kept (home chains key.node)).spans)

      given_here : (ss : List (Span Mark)) → with_spans v row ss ≡ set (row_lists v) (home chains key.node) (given_spans key ss (rows v (home chains key.node)))
      given_here ss = (λ i. set (row_lists v) (chain i) (with_runs (rows v (chain i)) (index i) ss))
          ∙ ap (set (row_lists v) (home chains key.node)) (changed_row key ss (rows v (home chains key.node)) (table.kept (home chains key.node)).in_order has)

      module _ (start end : ℕ) (mark : Option Mark) (ss : List (Span Mark)) (are : AreSpans ss)
          (marks : (b : ℕ) → mark_at ss b ≡ cond (nat_le start b && nat_le b end) mark (mark_at (spans_at v row) b)) where
        told : (b : ℕ) → mark_at ss b ≡ cond (nat_le start b && nat_le b end) mark (mark_at (spans_of key (rows v (home chains key.node))) b)
        told b = marks b ∙ ap (λ (l : List (Span Mark)). cond (nat_le start b && nat_le b end) mark (mark_at l b)) spans_here

        pub here_full : (limit_of v + length (spans_at v row) < run_count v + length ss)
            ↔ (limit_of v < runs (stroked (record { key = key; start = start; end = end; mark = mark }) (row_marks v)))
        here_full =
            let room = table_room v (limit_of v) table key ss are start end mark told in
            let long : length (spans_at v row) ≡ length (spans_of key (rows v (home chains key.node))) = ap length spans_here in
            (λ more. omega (arith, room, long, more), λ more. omega (arith, room, long, more))

        pub here_stroked : (w : LockRows) → row_lists w ≡ with_spans v row ss →
            row_marks w ≡ stroked (record { key = key; start = start; end = end; mark = mark }) (row_marks v)
        here_stroked w is = table_stroked v (limit_of v) table key ss are start end mark told w (is ∙ given_here ss)

        pub here_kept : (w : LockRows) → row_lists w ≡ with_spans v row ss → HasRoomOf v w →
            (limit_of v + length (spans_at v row) < run_count v + length ss → ⊥) → IsLockTable w (limit_of v) chains
        here_kept w is size none =
            let long : length (spans_at v row) ≡ length (spans_of key (rows v (home chains key.node))) = ap length spans_here in
            let room = no_less (limit_of v + length (spans_at v row)) (run_count v + length ss) none in
            table_given v (limit_of v) table key ss are w (is ∙ given_here ss) size (omega (arith, long, room))

      -- the row goes

      erased_marks : (b : ℕ) → ◌≡◌ {A = Option Mark} None (cond (nat_le 0 b && nat_le b 9223372036854775807) None (mark_at (spans_at v row) b))
      erased_marks b = elim (cases_lt 9223372036854775807 b) [
        | inl past ↦ nowhere (nat_le 0 b && nat_le b 9223372036854775807) (mark_at (spans_at v row) b) (none_past (spans_at v row) are_here b past)
        | inr upto ↦ ap (λ (x : Bool). cond x None (mark_at (spans_at v row) b)) (sym (in_time 0 9223372036854775807 b (omega arith) upto))
      ]

      pub removed_here : (w : LockRows) → row_lists w ≡ set (row_lists v) row.chain (remove (rows v row.chain) row.index) → row_lists w ≡ with_spans v row []
      removed_here w is = is ∙ ap (set (row_lists v) row.chain) (removed_row (rows v row.chain) row.index)

      pub erased_here : (w : LockRows) → row_lists w ≡ with_spans v row [] →
          row_marks w ≡ stroked (record { key = key; start = 0; end = 9223372036854775807; mark = None }) (row_marks v)
      erased_here w is = here_stroked 0 9223372036854775807 None [] tt erased_marks w is

      pub erased_kept : (w : LockRows) → row_lists w ≡ with_spans v row [] → HasRoomOf v w → IsLockTable w (limit_of v) chains
      erased_kept w is size =
          let few = table.few in
          here_kept 0 9223372036854775807 None [] tt erased_marks w is size (λ more. omega (arith, few, more))

    -- ---- the key has none

    module _ (none : has_row key (rows v (home chains key.node)) ≡ false) (start end : ℕ) where
      no_spans_here : spans_of key (rows v (home chains key.node)) ≡ []
      no_spans_here = no_row_spans key (rows v (home chains key.node)) none

      module _ (m : Mark) (ordered : start ≤ end) (limited : end ≤ 9223372036854775807) where
        abbrev new : Span Mark
        new = record { start = start; end = end; mark = m }

        is_span : AreSpans (new ∷ [])
        is_span = (record { ordered = ordered; bounded = limited }, tt, tt)

        new_marks : (b : ℕ) → mark_at (new ∷ []) b ≡ cond (nat_le start b && nat_le b end) (Some m) (mark_at (spans_of key (rows v (home chains key.node))) b)
        new_marks b = ap (λ (l : List (Span Mark)). cond (nat_le start b && nat_le b end) (Some m) (mark_at l b)) (sym no_spans_here)

        inserted : (w : LockRows) → row_lists w ≡ set (row_lists v) row.chain (insert (rows v row.chain) row.index (record { key = key; runs = new ∷ [] })) →
            row_lists w ≡ set (row_lists v) (home chains key.node) (given_spans key (new ∷ []) (rows v (home chains key.node)))
        inserted w is =
            is ∙ (λ i. set (row_lists v) (chain i) (insert (rows v (chain i)) (index i) (record { key = key; runs = new ∷ [] })))
            ∙ ap (set (row_lists v) (home chains key.node)) (inserted_row key new (rows v (home chains key.node)) (table.kept (home chains key.node)).in_order none)

        pub new_full : (run_count v ≡ limit_of v) ↔ (limit_of v < runs (stroked (record { key = key; start = start; end = end; mark = Some m }) (row_marks v)))
        new_full =
            let room = table_room v (limit_of v) table key (new ∷ []) is_span start end (Some m) new_marks in
            let long : length (spans_of key (rows v (home chains key.node))) ≡ 0 = ap length no_spans_here in
            let few = table.few in
            (λ full. omega (arith, room, long, full), λ more. omega (arith, room, long, few, more))

        pub new_stroked : (w : LockRows) → row_lists w ≡ set (row_lists v) row.chain (insert (rows v row.chain) row.index
            (record { key = key; runs = new ∷ [] })) →
            row_marks w ≡ stroked (record { key = key; start = start; end = end; mark = Some m }) (row_marks v)
        new_stroked w is = table_stroked v (limit_of v) table key (new ∷ []) is_span start end (Some m) new_marks w (inserted w is)

        pub new_kept : (w : LockRows) → row_lists w ≡ set (row_lists v) row.chain (insert (rows v row.chain) row.index
            (record { key = key; runs = new ∷ [] })) →
            HasRoomOf v w → (run_count v ≡ limit_of v → ⊥) → IsLockTable w (limit_of v) chains
        new_kept w is size room =
            let long : length (spans_of key (rows v (home chains key.node))) ≡ 0 = ap length no_spans_here in
            let few = table.few in
            let differ : run_count v ≢ limit_of v = room in
            table_given v (limit_of v) table key (new ∷ []) is_span w (inserted w is) size (omega (arith, long, few, differ))

  module _ (none : has_row key (rows v (home chains key.node)) ≡ false) (start end : ℕ) where
    left_marks : (b : ℕ) → ◌≡◌ {A = Option Mark} None (cond (nat_le start b && nat_le b end) None (mark_at (spans_of key (rows v (home chains key.node))) b))
    left_marks b =
        nowhere (nat_le start b && nat_le b end) (mark_at (spans_of key (rows v (home chains key.node))) b)
        (ap (λ (l : List (Span Mark)). mark_at l b) (no_row_spans key (rows v (home chains key.node)) none))

    left : row_lists v ≡ set (row_lists v) (home chains key.node) (given_spans key [] (rows v (home chains key.node)))
    left = sym (ap (set (row_lists v) (home chains key.node)) (unchanged_rows key (rows v (home chains key.node)) (table.kept (home chains key.node)).in_order none)
        ∙ set-get_or (row_lists v) (home chains key.node) [])

    -- a key without marks has none to lose
    pub left_stroked : row_marks v ≡ stroked (record { key = key; start = start; end = end; mark = None }) (row_marks v)
    left_stroked = table_stroked v (limit_of v) table key [] tt start end None left_marks v left

    pub left_room : limit_of v < runs (stroked (record { key = key; start = start; end = end; mark = None }) (row_marks v)) → ⊥
    left_room more =
        let room = table_room v (limit_of v) table key [] tt start end None left_marks in
        let few = table.few in
        omega (arith, room, few, more)
