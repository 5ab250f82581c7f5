-- The least owner that conflicts with a lock, on a walk along the rows of its class on its node.
use Rattle.std.proofs.Common.{◌≡◌, ℕ, ◌+◌, ◌<◌, ◌≤◌, Bool, true, false, cond, ◌&&◌, nat_lt, Option, Some, None, is_some}
use Rattle.std.proofs.Common.{List, [], ◌∷◌, ◌++◌, map, drop}
use Rattle.std.proofs.Common.{slice_get, refl, ap, sym, ◌∙◌, arith}
use Rattle.std.proofs.lemmas.Bool.Decides.{nat_tests}
use Rattle.std.proofs.lemmas.Bool.{and_right}
use Rattle.std.specs.List.{filter, find, AllByRecursion}
use Rattle.fl_spans.specs.Rows.{chain_count, rows, keys, runs_at}
use Rattle.fl_spans.specs.declared.span.Span.{Span}
use Rattle.fl_marks.specs.declared.lock.Key.{Key}
use Rattle.fl_marks.specs.declared.lock.Kind.{Kind}
use Rattle.fl_marks.specs.declared.lock.Mark.{Mark}
use Rattle.fl_marks.specs.declared.run.Run.{Run}
use Rattle.fl_ranges.specs.Placing.{home}
use Rattle.fl_marks.specs.Blocker.{of_owner}
use Rattle.fl_ranges.specs.Inside.RunList.{run_conflicts}
use Rattle.fl_ranges.specs.Inside.LockRows.{LockRow, LockRows, AreInOrder}
use Rattle.fl_ranges.specs.Layout.{run_of, runs_of, runs_in, table_runs}
use Rattle.fl_ranges.specs.Inside.LockRows.{AreLockRows}
use Rattle.fl_ranges.specs.Inside.Owners.{is_after, is_less, least_with, least_from}
use Rattle.fl_ranges.specs.Inside.Contenders.{rows_from, class_rows, kin_owner, span_conflicts}
use Rattle.fl_ranges.proofs.ContenderRows.{class_runs, conflicting_kin, at_kin, none_kin, each_row, later_runs}

module _ (key : Key) (start end : ℕ) (kind : Kind) (after : Option ℕ) where
  least_kept : (rs : List Run) (least : Option ℕ) →
      least_from key start end kind after least (filter (run_conflicts key start end kind) rs) ≡ least_from key start end kind after least rs
  least_kept [] least = refl
  least_kept (r ∷ rs) least = go (run_conflicts key start end kind r) refl (λ o. least_kept rs o)
    where
      go : (b : Bool) → run_conflicts key start end kind r ≡ b → ((o : Option ℕ) →
          least_from key start end kind after o (filter (run_conflicts key start end kind) rs) ≡ least_from key start end kind after o rs) →
          least_from key start end kind after least (cond b (r ∷ filter (run_conflicts key start end kind) rs) (filter (run_conflicts key start end kind) rs))
          ≡ least_from key start end kind after least (r ∷ rs)
      go true is rest = rest (least_with key start end kind after least r)
      go false is rest =
          rest least
          ∙ ap (λ b. least_from key start end kind after (cond (b && (is_after after r.key.owner && is_less least r.key.owner))
          (Some r.key.owner) least) rs) (sym is)

  least_append : (rs ss : List Run) (least : Option ℕ) →
      least_from key start end kind after least (rs ++ ss) ≡ least_from key start end kind after (least_from key start end kind after least rs) ss
  least_append [] ss least = refl
  least_append (r ∷ rs) ss least = least_append rs ss (least_with key start end kind after least r)

  not_less : (o p : ℕ) (a b : Bool) → o ≤ p → (a && (b && nat_lt p o)) ≡ false
  not_less o p a b le = grind (arith, nat_tests)

  -- no owner that isn't less takes the place of one
  stays_least : (rs : List Run) (o : ℕ) → AllByRecursion (λ (r : Run). o ≤ r.key.owner) rs → least_from key start end kind after (Some o) rs ≡ Some o
  stays_least [] o each = refl
  stays_least (r ∷ rs) o each =
      ap (λ b. least_from key start end kind after (cond b (Some r.key.owner) (Some o)) rs)
      (not_less o r.key.owner (run_conflicts key start end kind r) (is_after after r.key.owner) each.0)
      ∙ stays_least rs o each.1

  -- a row whose owner isn't greater than the one that is given
  spans_before : (k : Key) (ss : List (Span Mark)) → is_after after k.owner ≡ false → least_from key start end kind after None (map (run_of k) ss) ≡ None
  spans_before k [] not_so = refl
  spans_before k (s ∷ ss) not_so =
      ap (λ b. least_from key start end kind after (cond b (Some k.owner) None) (map (run_of k) ss))
      (and_right (run_conflicts key start end kind (run_of k s)) (is_after after k.owner && true) (ap (λ b. b && true) not_so))
      ∙ spans_before k ss not_so

  -- one that has no span which conflicts with the lock
  spans_none : (k : Key) (ss : List (Span Mark)) → is_some (find (λ s. run_conflicts key start end kind (run_of k s)) ss) ≡ false →
      least_from key start end kind after None (map (run_of k) ss) ≡ None
  spans_none k [] not_so = refl
  spans_none k (s ∷ ss) not_so = go (run_conflicts key start end kind (run_of k s)) refl (spans_none k ss) not_so
    where
      go : (b : Bool) → run_conflicts key start end kind (run_of k s) ≡ b →
          (is_some (find (λ s. run_conflicts key start end kind (run_of k s)) ss) ≡ false →
          least_from key start end kind after None (map (run_of k) ss) ≡ None) →
          is_some (cond b (Some s) (find (λ s. run_conflicts key start end kind (run_of k s)) ss)) ≡ false →
          least_from key start end kind after None (map (run_of k) (s ∷ ss)) ≡ None
      go true is rest not_so = absurd (cc not_so)
      go false is rest not_so =
          ap (λ b. least_from key start end kind after (cond (b && (is_after after k.owner && true)) (Some k.owner) None) (map (run_of k) ss)) is ∙ rest not_so

  same_owner : (k : Key) (ss : List (Span Mark)) → AllByRecursion (λ (r : Run). k.owner ≤ r.key.owner) (map (run_of k) ss)
  same_owner k [] = tt
  same_owner k (s ∷ ss) = (omega arith, same_owner k ss)

  -- one that has such a span
  spans_some : (k : Key) (ss : List (Span Mark)) → is_after after k.owner ≡ true →
      is_some (find (λ s. run_conflicts key start end kind (run_of k s)) ss) ≡ true → least_from key start end kind after None (map (run_of k) ss) ≡ Some k.owner
  spans_some k [] past some = absurd (cc some)
  spans_some k (s ∷ ss) past some = go (run_conflicts key start end kind (run_of k s)) refl (spans_some k ss past) some
    where
      go : (b : Bool) → run_conflicts key start end kind (run_of k s) ≡ b →
          (is_some (find (λ s. run_conflicts key start end kind (run_of k s)) ss) ≡ true →
          least_from key start end kind after None (map (run_of k) ss) ≡ Some k.owner)
          → is_some (cond b (Some s) (find (λ s. run_conflicts key start end kind (run_of k s)) ss)) ≡ true →
          least_from key start end kind after None (map (run_of k) (s ∷ ss)) ≡ Some k.owner
      go true is rest some =
          (λ i. least_from key start end kind after (cond (is i && (past i && true)) (Some k.owner) None) (map (run_of k) ss))
          ∙ stays_least (map (run_of k) ss) k.owner (same_owner k ss)
      go false is rest some =
          ap (λ b. least_from key start end kind after (cond (b && (is_after after k.owner && true)) (Some k.owner) None) (map (run_of k) ss)) is ∙ rest some

  -- the runs of these rows give the least owner of all
  pub least_class : (v : LockRows) → ((c : ℕ) → AreLockRows (chain_count v) c (rows v c)) → least_from key start end kind after None (table_runs v)
      ≡ least_from key start end kind after None (runs_in (class_rows key (rows_from key (rows v (home (chain_count v) key.node)))))
  least_class v kept =
      sym (least_kept (table_runs v) None)
      ∙ ap (least_from key start end kind after None) (class_runs key (run_conflicts key start end kind) (conflicting_kin key start end kind) v kept)
      ∙ least_kept (runs_in (class_rows key (rows_from key (rows v (home (chain_count v) key.node))))) None

  module _ (rs : List LockRow) (i owner : ℕ) (found : kin_owner key (slice_get (keys rs) i) ≡ Some owner) where
    here : least_from key start end kind after None (runs_in (class_rows key (drop i rs)))
        ≡ least_from key start end kind after (least_from key start end kind after None (map (run_of (of_owner key owner)) (runs_at rs i)))
        (runs_in (class_rows key (drop (i + 1) rs)))
    here =
        let k = at_kin key rs i owner found in
        ap (λ l. least_from key start end kind after None (runs_in l)) k.rest
        ∙ least_append (runs_of k.row) (runs_in (class_rows key (drop (i + 1) rs))) None
        ∙ (λ j. least_from key start end kind after (least_from key start end kind after None (map (run_of (k.key_is j)) (sym k.spans j)))
        (runs_in (class_rows key (drop (i + 1) rs))))

    -- the row at hand is of no such owner
    pub least_before : is_after after owner ≡ false →
        least_from key start end kind after None (runs_in (class_rows key (drop i rs)))
        ≡ least_from key start end kind after None (runs_in (class_rows key (drop (i + 1) rs)))
    least_before not_so =
        here ∙ ap (λ o. least_from key start end kind after o (runs_in (class_rows key (drop (i + 1) rs)))) (spans_before (of_owner key owner)
        (runs_at rs i) not_so)

    -- or has no such span
    pub least_next : is_some (find (span_conflicts key owner start end kind) (runs_at rs i)) ≡ false →
        least_from key start end kind after None (runs_in (class_rows key (drop i rs)))
        ≡ least_from key start end kind after None (runs_in (class_rows key (drop (i + 1) rs)))
    least_next none =
        here ∙ ap (λ o. least_from key start end kind after o (runs_in (class_rows key (drop (i + 1) rs)))) (spans_none (of_owner key owner)
        (runs_at rs i) none)

    -- or has one, and then later rows are of greater owners
    pub least_here : AreInOrder rs → is_after after owner ≡ true → is_some (find (span_conflicts key owner start end kind) (runs_at rs i)) ≡ true →
        least_from key start end kind after None (runs_in (class_rows key (drop i rs))) ≡ Some owner
    least_here order past some =
        here
        ∙ ap (λ o. least_from key start end kind after o (runs_in (class_rows key (drop (i + 1) rs)))) (spans_some (of_owner key owner)
        (runs_at rs i) past some)
        ∙ stays_least (runs_in (class_rows key (drop (i + 1) rs))) owner (each_row (λ (r : Run). owner < r.key.owner) (λ (r : Run). owner ≤ r.key.owner)
        (λ r less. omega (arith, less)) (runs_in (class_rows key (drop (i + 1) rs))) (later_runs key owner rs i order (at_kin key rs i owner found)))

  -- no row is left
  pub least_none : (rs : List LockRow) (i : ℕ) → kin_owner key (slice_get (keys rs) i) ≡ None →
      least_from key start end kind after None (runs_in (class_rows key (drop i rs))) ≡ None
  least_none rs i none = ap (λ l. least_from key start end kind after None (runs_in l)) (none_kin key rs i none)
