-- Whether a run conflicts with a lock, on a walk along the rows of its class on its node.
use Rattle.std.proofs.Common.{◌≡◌, ℕ, ◌+◌, Bool, true, false, cond, ◌||◌, Some, None, is_some, List, [], ◌∷◌, map, drop}
use Rattle.std.proofs.Common.{slice_get, refl, ap, sym, ◌∙◌}
use Rattle.std.proofs.lemmas.List.Folds.{list_any-append}
use Rattle.std.specs.List.{filter, find, list_any}
use Rattle.fl_spans.specs.Rows.{chain_count, rows, keys, runs_at}
use Rattle.fl_spans.specs.declared.span.Span.{Span}
use Rattle.fl_marks.specs.declared.lock.Key.{Key}
use Rattle.fl_marks.specs.declared.lock.Kind.{Kind}
use Rattle.fl_marks.specs.declared.lock.Mark.{Mark}
use Rattle.fl_marks.specs.declared.run.Run.{Run}
use Rattle.fl_ranges.specs.Placing.{home}
use Rattle.fl_marks.specs.Blocker.{of_owner}
use Rattle.fl_ranges.specs.Inside.RunList.{run_conflicts}
use Rattle.fl_ranges.specs.Inside.LockRows.{LockRow, LockRows, AreLockRows}
use Rattle.fl_ranges.specs.Layout.{run_of, runs_of, runs_in, table_runs}
use Rattle.fl_ranges.specs.Inside.Contenders.{are_kin, rows_from, class_rows, kin_owner, span_conflicts}
use Rattle.fl_ranges.proofs.ContenderRows.{class_runs, conflicting_kin, at_kin, none_kin}

any_kept : (t : Run → Bool) (rs : List Run) → list_any t (filter t rs) ≡ list_any t rs
any_kept t [] = refl
any_kept t (r ∷ rs) = go (t r) refl (any_kept t rs)
  where
    go : (b : Bool) → t r ≡ b → list_any t (filter t rs) ≡ list_any t rs → list_any t (cond b (r ∷ filter t rs) (filter t rs)) ≡ (b || list_any t rs)
    go true is rest = ap (λ b. b || list_any t (filter t rs)) is
    go false is rest = rest

any_span : (t : Run → Bool) (key : Key) (ss : List (Span Mark)) → list_any t (map (run_of key) ss) ≡ is_some (find (λ s. t (run_of key s)) ss)
any_span t key [] = refl
any_span t key (s ∷ ss) = go (t (run_of key s)) (any_span t key ss)
  where
    go : (b : Bool) → list_any t (map (run_of key) ss) ≡ is_some (find (λ s. t (run_of key s)) ss) →
        (b || list_any t (map (run_of key) ss)) ≡ is_some (cond b (Some s) (find (λ s. t (run_of key s)) ss))
    go true rest = refl
    go false rest = rest

-- Of a test which only runs of the class and node pass.
module _ (key : Key) (t : Run → Bool) where
  -- some run of the table passes if one of these rows' does
  pub class_any : ((r : Run) → t r ≡ true → are_kin key r.key ≡ true) → (v : LockRows) → ((c : ℕ) → AreLockRows (chain_count v) c (rows v c)) →
      list_any t (table_runs v) ≡ list_any t (runs_in (class_rows key (rows_from key (rows v (home (chain_count v) key.node)))))
  class_any kin v kept =
      sym (any_kept t (table_runs v))
      ∙ ap (list_any t) (class_runs key t kin v kept)
      ∙ any_kept t (runs_in (class_rows key (rows_from key (rows v (home (chain_count v) key.node)))))

  -- one of the row at hand, or one of a later row
  pub next_any : (rs : List LockRow) (i owner : ℕ) → kin_owner key (slice_get (keys rs) i) ≡ Some owner →
      list_any t (runs_in (class_rows key (drop i rs)))
      ≡ (is_some (find (λ s. t (run_of (of_owner key owner) s)) (runs_at rs i)) || list_any t (runs_in (class_rows key (drop (i + 1) rs))))
  next_any rs i owner found =
      let k = at_kin key rs i owner found in
      ap (λ l. list_any t (runs_in l)) k.rest
      ∙ list_any-append t (runs_of k.row) (runs_in (class_rows key (drop (i + 1) rs)))
      ∙ ap (λ b. b || list_any t (runs_in (class_rows key (drop (i + 1) rs))))
      (any_span t k.row.key k.row.runs ∙ (λ j. is_some (find (λ s. t (run_of (k.key_is j) s)) (sym k.spans j))))

  -- none is left
  pub end_any : (rs : List LockRow) (i : ℕ) → kin_owner key (slice_get (keys rs) i) ≡ None →
      list_any t (runs_in (class_rows key (drop i rs))) ≡ false
  end_any rs i none = ap (λ l. list_any t (runs_in l)) (none_kin key rs i none)

module _ (key : Key) (start end : ℕ) (kind : Kind) where
  -- so it is of the runs that conflict with a lock
  pub any_class : (v : LockRows) → ((c : ℕ) → AreLockRows (chain_count v) c (rows v c)) → list_any (run_conflicts key start end kind) (table_runs v)
      ≡ list_any (run_conflicts key start end kind) (runs_in (class_rows key (rows_from key (rows v (home (chain_count v) key.node)))))
  any_class v kept = class_any key (run_conflicts key start end kind) (conflicting_kin key start end kind) v kept

  pub any_next : (rs : List LockRow) (i owner : ℕ) → kin_owner key (slice_get (keys rs) i) ≡ Some owner →
      list_any (run_conflicts key start end kind) (runs_in (class_rows key (drop i rs)))
      ≡ (is_some (find (span_conflicts key owner start end kind) (runs_at rs i))
      || list_any (run_conflicts key start end kind) (runs_in (class_rows key (drop (i + 1) rs))))
  any_next rs i owner found = next_any key (run_conflicts key start end kind) rs i owner found

  pub any_end : (rs : List LockRow) (i : ℕ) → kin_owner key (slice_get (keys rs) i) ≡ None →
      list_any (run_conflicts key start end kind) (runs_in (class_rows key (drop i rs))) ≡ false
  any_end rs i none = end_any key (run_conflicts key start end kind) rs i none
