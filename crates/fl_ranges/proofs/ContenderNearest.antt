-- The nearest run that conflicts with a lock, on a walk along the rows of its class on its node.
use Rattle.std.proofs.Common.{◌≡◌, ℕ, ◌+◌, ◌-◌, ◌<◌, ◌≤◌, max, Bool, true, false, cond, not, ◌&&◌, ◌||◌, ◌==◌, nat_lt}
use Rattle.std.proofs.Common.{Option, Some, None, List, [], ◌∷◌}
use Rattle.std.proofs.Common.{map, drop, slice_get, refl, ap, sym, ◌∙◌, subst, arith}
use Rattle.std.proofs.lemmas.Bool.Decides.{nat_tests}
use Rattle.std.specs.List.{filter, find, AllByRecursion}
use Rattle.fl_spans.specs.Rows.{chain_count, rows, keys, runs_at}
use Rattle.fl_spans.specs.declared.span.Span.{Span}
use Rattle.fl_spans.specs.Spans.{AreSpans}
use Rattle.fl_marks.specs.declared.lock.Key.{Key}
use Rattle.fl_marks.specs.declared.lock.Kind.{Kind}
use Rattle.fl_marks.specs.declared.lock.Mark.{Mark}
use Rattle.fl_marks.specs.declared.run.Run.{Run}
use Rattle.fl_marks.specs.Marking.{class_number}
use Rattle.fl_marks.specs.Conflict.{kinds_conflict}
use Rattle.fl_ranges.specs.Placing.{home}
use Rattle.fl_marks.specs.Blocker.{of_owner}
use Rattle.fl_ranges.specs.Inside.RunList.{run_conflicts}
use Rattle.fl_ranges.specs.Inside.LockRows.{LockRow, LockRows, key_precedes}
use Rattle.fl_ranges.specs.Layout.{run_of, runs_of, runs_in, table_runs}
use Rattle.fl_ranges.specs.Inside.LockRows.{AreInOrder, AreLockRows}
use Rattle.fl_ranges.specs.Inside.Nearest.{is_nearer, nearer_of, nearest_with, nearest_from}
use Rattle.fl_ranges.specs.Inside.Contenders.{are_kin, rows_from, class_rows, kin_owner, span_conflicts}
use Rattle.fl_ranges.proofs.BlockersRuns.{ConflictingParts, conflicting_parts, conflicting_all, nearest_append}
use Rattle.fl_ranges.proofs.ContenderRows.{class_runs, conflicting_kin, IsKin, at_kin, none_kin, each_row, later_order}
use Rattle.fl_ranges.proofs.ContenderRows.{later_owner, later_runs}
use Rattle.fl_ranges.proofs.Each.{drop_here}

later_not_nearer : (x y p q : ℕ) → y ≤ x → q < p → (nat_lt x y || ((x == y) && nat_lt p q)) ≡ false
later_not_nearer x y p q le less = grind (arith, nat_tests)

beyond_not_nearer : (x y p q : ℕ) → y < x → (nat_lt x y || ((x == y) && nat_lt p q)) ≡ false
beyond_not_nearer x y p q less = grind (arith, nat_tests)

sooner_nearer : (x y p q : ℕ) → x < y → (nat_lt x y || ((x == y) && nat_lt p q)) ≡ true
sooner_nearer x y p q less = grind (arith, nat_tests)

above : (a b : ℕ) → (b ≤ a → ⊥) → a < b
above a b not = go (nat_lt a b) refl
  where
    go : (t : Bool) → nat_lt a b ≡ t → a < b
    go true e = grind (arith, nat_tests)
    go false e = absurd (not (grind (arith, nat_tests)))

-- the spans behind one start past its end
starts_after : (byte : ℕ) (s : Span Mark) (ss : List (Span Mark)) → byte < s.start → AreSpans (s ∷ ss) →
    AllByRecursion (λ (x : Span Mark). byte < x.start) (s ∷ ss)
starts_after byte s [] less are = (less, tt)
starts_after byte s (x ∷ xs) less are =
    let whole = are.0 in
    let before = are.1 in
    (less, starts_after byte x xs (omega (arith, less, whole.ordered, before.apart)) are.2)

behind_span : (s : Span Mark) (ss : List (Span Mark)) → AreSpans (s ∷ ss) → AllByRecursion (λ (x : Span Mark). s.end < x.start) ss
behind_span s [] are = tt
behind_span s (x ∷ xs) are = let before = are.1 in starts_after s.end x xs before.apart are.2

module _ (key : Key) (start end : ℕ) (kind : Kind) where
  nearest_kept : (rs : List Run) (best : Option Run) →
      nearest_from key start end kind best (filter (run_conflicts key start end kind) rs) ≡ nearest_from key start end kind best rs
  nearest_kept [] best = refl
  nearest_kept (r ∷ rs) best = go (run_conflicts key start end kind r) refl (λ o. nearest_kept rs o)
    where
      go : (b : Bool) → run_conflicts key start end kind r ≡ b →
          ((o : Option Run) → nearest_from key start end kind o (filter (run_conflicts key start end kind) rs) ≡ nearest_from key start end kind o rs) →
          nearest_from key start end kind best (cond b (r ∷ filter (run_conflicts key start end kind) rs) (filter (run_conflicts key start end kind) rs))
          ≡ nearest_from key start end kind best (r ∷ rs)
      go true is rest = rest (nearest_with key start end kind best r)
      go false is rest = rest best ∙ ap (λ b. nearest_from key start end kind (cond b (Some (nearer_of start best r)) best) rs) (sym is)

  -- the nearest of all is one of these rows'
  pub nearest_class : (v : LockRows) → ((c : ℕ) → AreLockRows (chain_count v) c (rows v c)) → nearest_from key start end kind None (table_runs v)
      ≡ nearest_from key start end kind None (runs_in (class_rows key (rows_from key (rows v (home (chain_count v) key.node)))))
  nearest_class v kept =
      sym (nearest_kept (table_runs v) None)
      ∙ ap (nearest_from key start end kind None) (class_runs key (run_conflicts key start end kind) (conflicting_kin key start end kind) v kept)
      ∙ nearest_kept (runs_in (class_rows key (rows_from key (rows v (home (chain_count v) key.node))))) None

  -- runs that aren't nearer than the nearest so far change nothing
  stays_best : (b : Run) (rs : List Run) → AllByRecursion (λ (r : Run). is_nearer start r b ≡ false) rs →
      nearest_from key start end kind (Some b) rs ≡ Some b
  stays_best b [] each = refl
  stays_best b (r ∷ rs) each =
      ap (λ o. nearest_from key start end kind o rs)
      (ap (λ t. cond (run_conflicts key start end kind r) (Some (cond t r b)) (Some b)) each.0 ∙ either (run_conflicts key start end kind r))
      ∙ stays_best b rs each.1
    where
      either : (t : Bool) → cond t (Some b) (Some b) ≡ Some b
      either true = refl
      either false = refl

  -- How far a walk is: no span that starts past the last byte is nearer than the nearest so far, which is of a
  -- lower owner.
  abbrev pub IsBest : ℕ → ℕ → Option Run → Type 0
  IsBest owner last None = last ≡ end
  IsBest owner last (Some b) = (last + 1 ≡ b.start) × (b.start ≤ end) × (b.key.owner < owner)

  module _ (owner last : ℕ) (some : start ≤ last) where
    up_to : (best : Option Run) → IsBest owner last best → last ≤ end
    up_to None is = omega (arith, is)
    up_to (Some b) is = let at = is.0 in let within = is.1 in omega (arith, at, within)

    abbrev Parts : ℕ → Span Mark → Type 0
    Parts upto s = ConflictingParts (class_number key.class) (class_number key.class) key.node key.node key.owner owner start upto s.start s.end
        (kinds_conflict kind s.mark.kind)

    parts_of : (upto : ℕ) (s : Span Mark) → span_conflicts key owner start upto kind s ≡ true → Parts upto s
    parts_of upto s is = conflicting_parts (class_number key.class) (class_number key.class) key.node key.node key.owner owner start upto s.start s.end
        (kinds_conflict kind s.mark.kind) is

    of_parts : (from upto : ℕ) (s : Span Mark) → Parts from s → s.start ≤ upto → span_conflicts key owner start upto kind s ≡ true
    of_parts from upto s p begins =
        conflicting_all (class_number key.class) (class_number key.class) key.node key.node key.owner owner start upto s.start s.end
        (kinds_conflict kind s.mark.kind) p.class p.node p.other begins p.ends p.write

    -- a span that isn't found isn't nearer
    not_better : (s : Span Mark) (best : Option Run) → IsBest owner last best → span_conflicts key owner start last kind s ≡ false →
        nearest_with key start end kind best (run_of (of_owner key owner) s) ≡ best
    not_better s best is fails = go (span_conflicts key owner start end kind s) refl
      where
        kept : (o : Option Run) → IsBest owner last o → last < s.start → s.start ≤ end → Some (nearer_of start o (run_of (of_owner key owner) s)) ≡ o
        kept None is past begins = absurd (omega (arith, is, past, begins))
        kept (Some b) is past begins =
            let at = is.0 in
            ap (λ t. Some (cond t (run_of (of_owner key owner) s) b))
            (later_not_nearer (max s.start start) (max b.start start) owner b.key.owner (omega (arith, at, past)) is.2)

        go : (t : Bool) → span_conflicts key owner start end kind s ≡ t → cond t (Some (nearer_of start best (run_of (of_owner key owner) s))) best ≡ best
        go true e =
            let p = parts_of end s e in
            kept best is (above last s.start (λ le. cc (sym fails ∙ of_parts end last s p le))) p.begins
        go false e = refl

    -- if none is found in a row
    row_none : (ss : List (Span Mark)) (best : Option Run) → IsBest owner last best → find (span_conflicts key owner start last kind) ss ≡ None →
        nearest_from key start end kind best (map (run_of (of_owner key owner)) ss) ≡ best
    row_none [] best is none = refl
    row_none (s ∷ ss) best is none = go (span_conflicts key owner start last kind s) refl none (row_none ss best is)
      where
        go : (t : Bool) → span_conflicts key owner start last kind s ≡ t → cond t (Some s) (find (span_conflicts key owner start last kind) ss) ≡ None →
            (find (span_conflicts key owner start last kind) ss ≡ None →
            nearest_from key start end kind best (map (run_of (of_owner key owner)) ss) ≡ best) →
            nearest_from key start end kind best (map (run_of (of_owner key owner)) (s ∷ ss)) ≡ best
        go true e none rest = absurd (cc none)
        go false e none rest =
            ap (λ o. nearest_from key start end kind o (map (run_of (of_owner key owner)) ss)) (not_better s best is e) ∙ rest none

    -- what is found in a row
    record IsFound (ss : List (Span Mark)) (best : Option Run) (s : Span Mark) : Type 0 where
      pub nearest : nearest_from key start end kind best (map (run_of (of_owner key owner)) ss) ≡ Some (run_of (of_owner key owner) s)
      pub begins : s.start ≤ last

    found_first : (s : Span Mark) (ss : List (Span Mark)) (best : Option Run) → AreSpans (s ∷ ss) → IsBest owner last best →
        span_conflicts key owner start last kind s ≡ true → IsFound (s ∷ ss) best s
    found_first s ss best are is e = record {
      nearest = ap (λ o. nearest_from key start end kind o (map (run_of (of_owner key owner)) ss))
          (ap (λ t. cond t (Some (nearer_of start best (run_of (of_owner key owner) s))) best) (of_parts last end s p (omega (arith, begins, up_to best is)))
          ∙ ap Some (nearer best is))
          ∙ stays_best (run_of (of_owner key owner) s) (map (run_of (of_owner key owner)) ss) (others ss (behind_span s ss are));
      begins = begins;
    }
      where
        p : Parts last s
        p = parts_of last s e

        begins : s.start ≤ last
        begins = p.begins

        nearer : (o : Option Run) → IsBest owner last o → nearer_of start o (run_of (of_owner key owner) s) ≡ run_of (of_owner key owner) s
        nearer None is = refl
        nearer (Some b) is =
            let at = is.0 in
            ap (λ t. cond t (run_of (of_owner key owner) s) b)
            (sooner_nearer (max s.start start) (max b.start start) owner b.key.owner (omega (arith, at, begins, some)))

        others : (xs : List (Span Mark)) → AllByRecursion (λ (x : Span Mark). s.end < x.start) xs →
            AllByRecursion (λ (r : Run). is_nearer start r (run_of (of_owner key owner) s) ≡ false) (map (run_of (of_owner key owner)) xs)
        others [] each = tt
        others (x ∷ xs) each =
            let whole = are.0 in
            let ends = p.ends in (
              beyond_not_nearer (max x.start start) (max s.start start) owner owner (let past = each.0 in omega
                  (arith, past, ends, whole.ordered)),
              others xs each.1,
            )

    row_found : (ss : List (Span Mark)) (best : Option Run) (s : Span Mark) → AreSpans ss → IsBest owner last best →
        find (span_conflicts key owner start last kind) ss ≡ Some s → IsFound ss best s
    row_found [] best s are is found = absurd (cc found)
    row_found (x ∷ ss) best s are is found = go (span_conflicts key owner start last kind x) refl found (row_found ss best s are.2 is)
      where
        go : (t : Bool) → span_conflicts key owner start last kind x ≡ t → cond t (Some x) (find (span_conflicts key owner start last kind) ss) ≡ Some s →
            (find (span_conflicts key owner start last kind) ss ≡ Some s → IsFound ss best s) → IsFound (x ∷ ss) best s
        go true e found rest =
            let same : x ≡ s = cc found in
            subst (λ (y : Span Mark). IsFound (x ∷ ss) best y) same (found_first x ss best are is e)
        go false e found rest =
            let f = rest found in
            record {
              nearest = ap (λ o. nearest_from key start end kind o (map (run_of (of_owner key owner)) ss)) (not_better x best is e) ∙ f.nearest;
              begins = f.begins;
            }

  -- the same, of all rows that are still to come
  abbrev pub IsBestOf : ℕ → List LockRow → Option Run → Type 0
  IsBestOf last rs None = last ≡ end
  IsBestOf last rs (Some b) =
      (last + 1 ≡ b.start) × (b.start ≤ end) × AllByRecursion (λ (x : LockRow). are_kin key x.key ≡ true → b.key.owner < x.key.owner) rs

  module _ (rs : List LockRow) (i owner : ℕ) (found : kin_owner key (slice_get (keys rs) i) ≡ Some owner) where
    this : IsKin key rs i owner
    this = at_kin key rs i owner found

    best_here : (last : ℕ) (best : Option Run) → IsBestOf last (drop i rs) best → IsBest owner last best
    best_here last None is = is
    best_here last (Some b) is =
        let k = this in
        let less : AllByRecursion (λ (x : LockRow). are_kin key x.key ≡ true → b.key.owner < x.key.owner) (k.row ∷ drop (i + 1) rs) =
        subst (AllByRecursion (λ (x : LockRow). are_kin key x.key ≡ true → b.key.owner < x.key.owner)) (drop_here rs i k.row k.there) is.2 in
        (is.0, is.1, subst (λ (o : Key). b.key.owner < o.owner) k.key_is (less.0 k.kin))

    best_later : (last : ℕ) (best : Option Run) → IsBestOf last (drop i rs) best → IsBestOf last (drop (i + 1) rs) best
    best_later last None is = is
    best_later last (Some b) is =
        let k = this in
        let less : AllByRecursion (λ (x : LockRow). are_kin key x.key ≡ true → b.key.owner < x.key.owner) (k.row ∷ drop (i + 1) rs) =
        subst (AllByRecursion (λ (x : LockRow). are_kin key x.key ≡ true → b.key.owner < x.key.owner)) (drop_here rs i k.row k.there) is.2 in
        (is.0, is.1, less.1)

    row_and_rest : (best : Option Run) → nearest_from key start end kind best (runs_in (class_rows key (drop i rs)))
        ≡ nearest_from key start end kind (nearest_from key start end kind best (map (run_of (of_owner key owner)) (runs_at rs i)))
        (runs_in (class_rows key (drop (i + 1) rs)))
    row_and_rest best =
        let k = this in
        ap (λ l. nearest_from key start end kind best (runs_in l)) k.rest
        ∙ nearest_append key start end kind (runs_of k.row) (runs_in (class_rows key (drop (i + 1) rs))) best
        ∙ (λ j. nearest_from key start end kind (nearest_from key start end kind best (map (run_of (k.key_is j)) (sym k.spans j)))
        (runs_in (class_rows key (drop (i + 1) rs))))

    module _ (last : ℕ) (some : start ≤ last) (best : Option Run) (is : IsBestOf last (drop i rs) best) where
      -- if the walk goes on past a row
      pub record GoesOn (now : ℕ) (next : Option Run) : Type 0 where
        pub rest : nearest_from key start end kind best (runs_in (class_rows key (drop i rs)))
            ≡ nearest_from key start end kind next (runs_in (class_rows key (drop (i + 1) rs)))
        pub later : IsBestOf now (drop (i + 1) rs) next

      -- no span of the row is nearer
      pub nearest_next : find (span_conflicts key owner start last kind) (runs_at rs i) ≡ None → GoesOn last best
      nearest_next none = record {
        rest = row_and_rest best
            ∙ ap (λ o. nearest_from key start end kind o (runs_in (class_rows key (drop (i + 1) rs))))
            (row_none owner last some (runs_at rs i) best (best_here last best is) none);
        later = best_later last best is;
      }

      module _ (order : AreInOrder rs) (spans : AreSpans (runs_at rs i)) (s : Span Mark)
          (nearer : find (span_conflicts key owner start last kind) (runs_at rs i) ≡ Some s) where
        here : IsFound owner last some (runs_at rs i) best s
        here = row_found owner last some (runs_at rs i) best s spans (best_here last best is) nearer

        -- one is
        pub nearest_more : start < s.start → GoesOn (s.start - 1) (Some (run_of (of_owner key owner) s))
        nearest_more behind =
            let k = this in
            let h = here in
            let within = up_to owner last some best (best_here last best is) in
            record {
              rest = row_and_rest best ∙ ap (λ o. nearest_from key start end kind o (runs_in (class_rows key (drop (i + 1) rs)))) h.nearest;
              later = (
                omega (arith, behind),
                (let begins = h.begins in omega (arith, begins, within)),
                each_row (λ (x : LockRow). key_precedes k.row.key x.key ≡ true) (λ (x : LockRow). are_kin key x.key ≡ true → owner < x.key.owner)
                    (λ x first kin. later_owner key owner x.key (ap (λ o. key_precedes o x.key) (sym k.key_is) ∙ first) kin) (drop (i + 1) rs)
                    (later_order rs i k.row k.there order),
              );
            }

        -- one has the first byte of the range, so that none of a later row is nearer
        pub nearest_stop : s.start ≤ start → nearest_from key start end kind best (runs_in (class_rows key (drop i rs))) ≡ Some (run_of (of_owner key owner) s)
        nearest_stop at =
            let h = here in
            row_and_rest best
            ∙ ap (λ o. nearest_from key start end kind o (runs_in (class_rows key (drop (i + 1) rs)))) h.nearest
            ∙ stays_best (run_of (of_owner key owner) s) (runs_in (class_rows key (drop (i + 1) rs))) (each_row (λ (r : Run). owner < r.key.owner)
            (λ (r : Run). is_nearer start r (run_of (of_owner key owner) s) ≡ false)
            (λ r less. later_not_nearer (max r.start start) (max s.start start) r.key.owner owner (omega (arith, at)) less)
            (runs_in (class_rows key (drop (i + 1) rs))) (later_runs key owner rs i order this))

  pub nearest_none : (rs : List LockRow) (i : ℕ) (best : Option Run) → kin_owner key (slice_get (keys rs) i) ≡ None →
      nearest_from key start end kind best (runs_in (class_rows key (drop i rs))) ≡ best
  nearest_none rs i best none = ap (λ l. nearest_from key start end kind best (runs_in l)) (none_kin key rs i none)
