-- Of which owners a run conflicts with a lock, on a walk along the rows of its class on its node and along owners in
-- order.
use Rattle.std.proofs.Common.{◌≡◌, ◌≢◌, ℕ, ◌+◌, ◌<◌, ◌≤◌, Bool, true, false, cond, ◌&&◌, ◌||◌, ◌==◌, Some, None}
use Rattle.std.proofs.Common.{is_some, inl, inr, List, [], ◌∷◌}
use Rattle.std.proofs.Common.{drop, length, slice_get, slice_index_or, refl, ap, sym, ◌∙◌, arith}
use Rattle.std.proofs.lemmas.Bool.{eq-eqb, ne_eqb, or_parts, cases_lt}
use Rattle.std.specs.Cmp.{second_so}
use Rattle.std.specs.List.{find, list_any, AllByRecursion}
use Rattle.std.specs.List.Sorted.{IsNonDecreasing}
use Rattle.fl_spans.specs.Rows.{chain_count, rows, keys, runs_at}
use Rattle.fl_spans.specs.declared.span.Span.{Span}
use Rattle.fl_marks.specs.declared.lock.Key.{Key}
use Rattle.fl_marks.specs.declared.lock.Kind.{Kind}
use Rattle.fl_marks.specs.declared.lock.Mark.{Mark}
use Rattle.fl_marks.specs.declared.run.Run.{Run}
use Rattle.fl_ranges.specs.Placing.{home}
use Rattle.fl_marks.specs.Blocker.{of_owner}
use Rattle.fl_ranges.specs.Inside.RunList.{run_conflicts}
use Rattle.fl_ranges.specs.Inside.LockRows.{LockRow, LockRows, AreInOrder, AreLockRows}
use Rattle.fl_ranges.specs.Layout.{run_of, runs_in, table_runs}
use Rattle.fl_ranges.specs.Inside.Owners.{run_conflicts_by}
use Rattle.fl_ranges.specs.Inside.Contenders.{are_kin, rows_from, class_rows, kin_owner, span_conflicts}
use Rattle.fl_ranges.proofs.ContenderRows.{conflicting_kin, at_kin, later_runs}
use Rattle.fl_ranges.proofs.ContenderConflicts.{class_any, next_any, end_any}

pub or_none : (a : Bool) → (a || false) ≡ a
or_none true = refl
or_none false = refl

module _ (key : Key) (start end : ℕ) (kind : Kind) where
  -- an owner has a run that conflicts with the lock, in these rows from one on
  abbrev pub conflicts_from : List LockRow → ℕ → ℕ → Bool
  conflicts_from rs i o = list_any (run_conflicts_by key start end kind o) (runs_in (class_rows key (drop i rs)))

  conflicting_kin_by : (o : ℕ) (r : Run) → run_conflicts_by key start end kind o r ≡ true → are_kin key r.key ≡ true
  conflicting_kin_by o r is = conflicting_kin key start end kind r (second_so (r.key.owner == o) _ is)

  -- an owner has such a run in the table if it has one in these rows
  pub contender_class : (v : LockRows) → ((c : ℕ) → AreLockRows (chain_count v) c (rows v c)) → (o : ℕ) →
      list_any (run_conflicts_by key start end kind o) (table_runs v)
      ≡ list_any (run_conflicts_by key start end kind o) (runs_in (class_rows key (rows_from key (rows v (home (chain_count v) key.node)))))
  contender_class v kept o = class_any key (run_conflicts_by key start end kind o) (conflicting_kin_by o) v kept

  -- no run of other owners is this owner's
  later_none : (o : ℕ) (owner : ℕ) → o ≤ owner → (rs : List Run) → AllByRecursion (λ (r : Run). owner < r.key.owner) rs →
      list_any (run_conflicts_by key start end kind o) rs ≡ false
  later_none o owner le [] each = refl
  later_none o owner le (r ∷ rs) each =
      ap (λ b. (b && run_conflicts key start end kind r) || list_any (run_conflicts_by key start end kind o) rs) (ne_eqb r.key.owner o (omega (arith, each.0)))
      ∙ later_none o owner le rs each.1

  other_find : (o owner : ℕ) → o ≢ owner → (ss : List (Span Mark)) →
      find (λ s. run_conflicts_by key start end kind o (run_of (of_owner key owner) s)) ss ≡ None
  other_find o owner apart [] = refl
  other_find o owner apart (s ∷ ss) =
      ap (λ b. cond (b && span_conflicts key owner start end kind s) (Some s)
      (find (λ x. run_conflicts_by key start end kind o (run_of (of_owner key owner) x)) ss)) (ne_eqb owner o (λ e. apart (sym e)))
      ∙ other_find o owner apart ss

  same_find : (o owner : ℕ) → o ≡ owner → (ss : List (Span Mark)) →
      find (λ s. run_conflicts_by key start end kind o (run_of (of_owner key owner) s)) ss ≡ find (span_conflicts key owner start end kind) ss
  same_find o owner same ss = ap (λ b. find (λ s. b && span_conflicts key owner start end kind s) ss) (eq-eqb owner o (sym same))

  module _ (rs : List LockRow) (i owner : ℕ) (found : kin_owner key (slice_get (keys rs) i) ≡ Some owner) where
    -- the row at hand tells nothing of other owners
    pub contender_other : (o : ℕ) → o ≢ owner → conflicts_from rs i o ≡ conflicts_from rs (i + 1) o
    contender_other o apart =
        next_any key (run_conflicts_by key start end kind o) rs i owner found
        ∙ ap (λ x. is_some x || conflicts_from rs (i + 1) o) (other_find o owner apart (runs_at rs i))

    -- an owner who has no such run has none in later rows
    pub contender_still : (o : ℕ) → conflicts_from rs i o ≡ false → conflicts_from rs (i + 1) o ≡ false
    contender_still o none =
        let e = or_parts _ (conflicts_from rs (i + 1) o) (sym (next_any key (run_conflicts_by key start end kind o) rs i owner found) ∙ none) in
        e.1

    -- no later row is of its owner, or of one before
    pub contender_past : AreInOrder rs → (o : ℕ) → o ≤ owner → conflicts_from rs (i + 1) o ≡ false
    contender_past order o le = later_none o owner le (runs_in (class_rows key (drop (i + 1) rs))) (later_runs key owner rs i order (at_kin key rs i owner found))

    -- so it tells all of its owner
    pub contender_here : AreInOrder rs → (o : ℕ) → o ≡ owner → conflicts_from rs i o ≡ is_some (find (span_conflicts key owner start end kind) (runs_at rs i))
    contender_here order o same =
        next_any key (run_conflicts_by key start end kind o) rs i owner found
        ∙ (λ j. is_some (same_find o owner same (runs_at rs i) j) || contender_past order o (omega (arith, same)) j)
        ∙ or_none (is_some (find (span_conflicts key owner start end kind) (runs_at rs i)))

  -- none is left
  pub contender_end : (rs : List LockRow) (i : ℕ) → kin_owner key (slice_get (keys rs) i) ≡ None → (o : ℕ) → conflicts_from rs i o ≡ false
  contender_end rs i none o = end_any key (run_conflicts_by key start end kind o) rs i none

-- ---- what one row tells of owners in order

-- the owners behind those of a row are others
pub more_behind : (owners : List ℕ) (owner first last : ℕ) → IsNonDecreasing owners → first ≤ last →
    (first < length owners → owner ≤ slice_index_or owners first 0) → (last < length owners → slice_index_or owners last 0 ≢ owner) →
    (k : ℕ) → last ≤ k → k < length owners → slice_index_or owners k 0 ≢ owner
more_behind owners owner first last ascending order least other k behind within same =
    let a = least (omega arith) in
    let b = ascending first last 0 order (omega arith) in
    let d = ascending last k 0 behind within in
    other (omega arith) (omega (arith, a, b, d, same))

-- what is set at the places of the row's owner, if it has such a span
pub record AreMarked (old new : List Bool) (first last : ℕ) (seen : Bool) : Type 0 where
  pub set : (k : ℕ) → first ≤ k → k < last → slice_index_or new k false ≡ (slice_index_or old k false || seen)
  pub before : (k : ℕ) → k < first → slice_index_or new k false ≡ slice_index_or old k false
  pub behind : (k : ℕ) → last ≤ k → slice_index_or new k false ≡ slice_index_or old k false

module _ (key : Key) (start end : ℕ) (kind : Kind) (rs : List LockRow) (i owner : ℕ) (found : kin_owner key (slice_get (keys rs) i) ≡ Some owner)
    (order : AreInOrder rs) (owners : List ℕ) (place first : ℕ) (less : (k : ℕ) → place ≤ k → k < first → slice_index_or owners k 0 < owner)
    (passed : (k : ℕ) → k < place → conflicts_from key start end kind rs i (slice_index_or owners k 0) ≡ false) where
  -- places before those of the row's owner have nothing in it
  pub still_passed : (k : ℕ) → k < first → conflicts_from key start end kind rs i (slice_index_or owners k 0) ≡ false
  still_passed k before = elim (cases_lt k place) [
    | inl h ↦ passed k h
    | inr h ↦
        contender_other key start end kind rs i owner found (slice_index_or owners k 0) (λ e. omega (arith, less k h before, e))
        ∙ contender_past key start end kind rs i owner found order (slice_index_or owners k 0) (omega (arith, less k h before))
  ]

  module _ (last : ℕ) (same : (k : ℕ) → first ≤ k → k < last → slice_index_or owners k 0 ≡ owner) where
    -- and those up to its last have nothing behind it
    pub next_passed : (k : ℕ) → k < last → conflicts_from key start end kind rs (i + 1) (slice_index_or owners k 0) ≡ false
    next_passed k before = elim (cases_lt k first) [
      | inl h ↦ contender_still key start end kind rs i owner found (slice_index_or owners k 0) (still_passed k h)
      | inr h ↦ contender_past key start end kind rs i owner found order (slice_index_or owners k 0) (omega (arith, same k h before))
    ]

    -- what is set, or is to be found behind the row, was set, or to be found from it on
    pub next_rest : first ≤ last → ((k : ℕ) → last ≤ k → k < length owners → slice_index_or owners k 0 ≢ owner) → (old new : List Bool) →
        AreMarked old new first last (is_some (find (span_conflicts key owner start end kind) (runs_at rs i))) → (k : ℕ) → k < length owners →
        (slice_index_or new k false || conflicts_from key start end kind rs (i + 1) (slice_index_or owners k 0))
        ≡ (slice_index_or old k false || conflicts_from key start end kind rs i (slice_index_or owners k 0))
    next_rest upto more old new marked k within = elim (cases_lt k first) [
      | inl h ↦ (λ j. marked.before k h j || (next_passed k (omega arith) ∙ sym (still_passed k h)) j)
      | inr h ↦ elim (cases_lt k last) [
        | inl g ↦
            (λ j. marked.set k h g j || next_passed k g j)
            ∙ or_none (slice_index_or old k false || is_some (find (span_conflicts key owner start end kind) (runs_at rs i)))
            ∙ ap (λ b. slice_index_or old k false || b)
            (sym (contender_here key start end kind rs i owner found order (slice_index_or owners k 0) (same k h g)))
        | inr g ↦
            (λ j. marked.behind k g j || sym (contender_other key start end kind rs i owner found (slice_index_or owners k 0) (more k g within)) j)
      ]
    ]
