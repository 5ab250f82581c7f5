-- The places of the slots.
use Rattle.std.proofs.Common.{◌≡◌, ◌≢◌, ℕ, zero, suc, ◌-◌, ◌≤◌, ◌<◌, Bool, true, false, cond, ◌==◌, List, [], ◌∷◌, ◌++◌}
use Rattle.std.proofs.Common.{Option, Some, None, map, length}
use Rattle.std.proofs.Common.{get_or, length-append, refl, ap, sym, ◌∙◌, subst, arith}
use Rattle.std.proofs.lemmas.Bool.{false_from_ne_true, eqb-true, eq-eqb}
use Rattle.std.proofs.lemmas.List.{append-nil, length-map}
use Rattle.std.proofs.lemmas.List.Elements.{filter-append}
use Rattle.std.specs.List.{flat_map, filter, AllByRecursion}
use Rattle.std.specs.Option.{option_map}
use Rattle.std.specs.FinMap.{same_map, retain_keys}
use Rattle.fl_spans.specs.declared.span.Span.{Span}
use Rattle.fl_spans.specs.Rows.{row_lists, rows, limit_of, run_count}
use Rattle.fl_marks.specs.declared.lock.Key.{Key}
use Rattle.fl_marks.specs.declared.lock.Mark.{Mark}
use Rattle.fl_marks.specs.declared.run.Run.{Run}
use Rattle.fl_marks.specs.Marking.{Spot, marking_of}
use Rattle.fl_marks.specs.Runs.{runs}
use Rattle.fl_ranges.specs.LockTable.{LockTable}
use Rattle.fl_ranges.specs.Placing.{home, on_chain}
use Rattle.fl_ranges.specs.Inside.RunList.{run_at, held_at, IsWhole, AreRuns}
use Rattle.fl_ranges.specs.Setting.{meant}
use Rattle.fl_ranges.specs.Inside.LockRows.{LockRow, LockRows, row_marks}
use Rattle.fl_ranges.specs.Layout.{run_of, runs_of, runs_in, table_runs}
use Rattle.fl_ranges.specs.Inside.LockRows.{AreOnChain, IsLockTable}
use Rattle.fl_ranges.proofs.Each.{all_append, all_weaker}
use Rattle.fl_ranges.proofs.Markings.{spots_total, exact_spots, get-kept_nodes}
use Rattle.fl_ranges.proofs.RunLists.{at_spot, run_has, each_filter, keep, run_at-filter, apart-filter}
use Rattle.fl_ranges.proofs.Counting.{get-runs, runs_length}
use Rattle.fl_ranges.proofs.RowRuns.{runs_kept}
use Rattle.fl_ranges.proofs.RowTables.{long_table}
use Rattle.fl_ranges.proofs.TableCalls.{table_apart}

module _ (p : Run → Bool) (rs : List Run) (good : AreRuns rs) where
  pub runs-filter : AreRuns (filter p rs)
  runs-filter = record {
    apart = apart-filter p rs good.apart;
    whole = all_weaker (λ r. (p r ≡ true) × IsWhole (held_at rs) r) (IsWhole (held_at (filter p rs)))
        (λ r h. record {
          in_range = h.1.in_range;
          first = λ later held. h.1.first later (still (r.key, r.start - 1) r.mark (run_at rs (r.key, r.start - 1)) refl held);
        })
        (filter p rs) (each_filter (IsWhole (held_at rs)) p rs good.whole);
  }
    where
      still : (q : Spot) (mark : Mark) (o : Option Run) → run_at rs q ≡ o → held_at (filter p rs) q ≡ Some mark → held_at rs q ≡ Some mark
      still q mark None none held = absurd (cc (sym held ∙ ap (option_map (λ (x : Run). x.mark)) (run_at-filter p rs good.apart q ∙ ap (keep p) none)))
      still q mark (Some r) found held = go (p r) refl
        where
          go : (b : Bool) → p r ≡ b → held_at rs q ≡ Some mark
          go true is = ap (option_map (λ (x : Run). x.mark)) found
              ∙ sym (ap (option_map (λ (x : Run). x.mark)) (run_at-filter p rs good.apart q ∙ ap (keep p) found ∙ ap (λ b. cond b (Some r) None) is)) ∙ held
          go false is = absurd (cc (sym held ∙ ap (option_map (λ (x : Run). x.mark)) (run_at-filter p rs good.apart q ∙ ap (keep p) found
              ∙ ap (λ b. cond b (Some r) None) is)))

-- the runs of the nodes that pass a test mean the marks of those nodes
pub kept_nodes : (p : ℕ → Bool) (rs : List Run) → AreRuns rs →
    marking_of (map meant (filter (λ r. p r.key.node) rs)) ≡ retain_keys (marking_of (map meant rs)) (λ spot. p spot.0.node)
kept_nodes p rs good = same_map spots_total exact_spots _ _ (λ q.
    get-runs (filter (λ r. p r.key.node) rs) q
    ∙ ap (option_map (λ (x : Run). x.mark)) (run_at-filter (λ r. p r.key.node) rs good.apart q)
    ∙ go q (run_at rs q) refl
    ∙ ap (λ (o : Option Mark). cond (p q.0.node) o None) (sym (get-runs rs q))
    ∙ sym (get-kept_nodes (marking_of (map meant rs)) p q))
  where
    none_either : (b : Bool) → ◌≡◌ {A = Option Mark} None (cond b None None)
    none_either true = refl
    none_either false = refl

    kept : (b : Bool) (r : Run) → option_map (λ (x : Run). x.mark) (cond b (Some r) None) ≡ cond b (Some r.mark) None
    kept true r = refl
    kept false r = refl

    go : (q : Spot) (o : Option Run) → run_at rs q ≡ o →
        option_map (λ (x : Run). x.mark) (keep (λ r. p r.key.node) (run_at rs q)) ≡ cond (p q.0.node) (held_at rs q) None
    go q None none = ap (λ (o : Option Run). option_map (λ (x : Run). x.mark) (keep (λ r. p r.key.node) o)) none ∙ none_either (p q.0.node)
        ∙ ap (λ (o : Option Run). cond (p q.0.node) (option_map (λ (x : Run). x.mark) o) None) (sym none)
    go q (Some r) found =
        let at = at_spot r q (run_has rs q r found) in
        ap (λ (o : Option Run). option_map (λ (x : Run). x.mark) (keep (λ r. p r.key.node) o)) found
        ∙ kept (p r.key.node) r
        ∙ ap (λ (k : Key). cond (p k.node) (Some r.mark) None) at.key
        ∙ ap (λ (o : Option Run). cond (p q.0.node) (option_map (λ (x : Run). x.mark) o) None) (sym found)

-- ---- the runs of one chain

keeps_none : (t : Run → Bool) (rs : List Run) → AllByRecursion (λ r. t r ≡ false) rs → filter t rs ≡ []
keeps_none t [] each = refl
keeps_none t (r ∷ rs) each = ap (λ b. cond b (r ∷ filter t rs) (filter t rs)) each.0 ∙ keeps_none t rs each.1

keeps_all : (t : Run → Bool) (rs : List Run) → AllByRecursion (λ r. t r ≡ true) rs → filter t rs ≡ rs
keeps_all t [] each = refl
keeps_all t (r ∷ rs) each = ap (λ b. cond b (r ∷ filter t rs) (filter t rs)) each.0 ∙ ap (λ (l : List Run). r ∷ l) (keeps_all t rs each.1)

-- what holds of a row's key holds of its runs
runs_weaker : (P : ℕ → Type 0) (rs : List LockRow) → AllByRecursion (λ r. P r.key.node) rs → AllByRecursion (λ (r : Run). P r.key.node) (runs_in rs)
runs_weaker P [] each = tt
runs_weaker P (r ∷ rs) each = all_append (λ (x : Run). P x.key.node) (runs_of r) (runs_in rs) (own r.runs) (runs_weaker P rs each.1)
  where
    own : (ss : List (Span Mark)) → AllByRecursion (λ (x : Run). P x.key.node) (map (run_of r.key) ss)
    own [] = tt
    own (s ∷ ss) = (each.0, own ss)

module _ (chains : ℕ) where
  -- the runs of chains that have another number
  none_elsewhere : (number : ℕ → ℕ) (n : ℕ) → ((c : ℕ) → number c ≢ n) → (lists : List (List LockRow)) → ((c : ℕ) → AreOnChain chains (number c) (get_or lists c [])) →
      filter (λ (r : Run). home chains r.key.node == n) (flat_map runs_in lists) ≡ []
  none_elsewhere number n differ [] on = refl
  none_elsewhere number n differ (rs ∷ rss) on =
      filter-append (λ (r : Run). home chains r.key.node == n) (runs_in rs) (flat_map runs_in rss)
      ∙ (λ i. keeps_none (λ (r : Run). home chains r.key.node == n) (runs_in rs) (runs_weaker (λ node. (home chains node == n) ≡ false) rs
      (all_weaker (λ (r : LockRow). home chains r.key.node ≡ number 0) (λ (r : LockRow). (home chains r.key.node == n) ≡ false)
      (λ r is. false_from_ne_true _ (λ same. differ 0 (sym is ∙ eqb-true (home chains r.key.node) n same))) rs (on 0))) i
      ++ none_elsewhere (λ c. number (suc c)) n (λ c. differ (suc c)) rss (λ c. on (suc c)) i)

  -- those of a number are the runs of its chain
  on_number : (number : ℕ → ℕ) → ((c d : ℕ) → number c ≡ number d → c ≡ d) → (lists : List (List LockRow)) →
      ((c : ℕ) → AreOnChain chains (number c) (get_or lists c [])) → (c : ℕ) →
      filter (λ (r : Run). home chains r.key.node == number c) (flat_map runs_in lists) ≡ runs_in (get_or lists c [])
  on_number number apart [] on c = refl
  on_number number apart (rs ∷ rss) on zero =
      filter-append (λ (r : Run). home chains r.key.node == number 0) (runs_in rs) (flat_map runs_in rss)
      ∙ (λ i. keeps_all (λ (r : Run). home chains r.key.node == number 0) (runs_in rs) (runs_weaker (λ node. (home chains node == number 0) ≡ true) rs
      (all_weaker (λ (r : LockRow). home chains r.key.node ≡ number 0) (λ (r : LockRow). (home chains r.key.node == number 0) ≡ true)
      (λ r is. eq-eqb (home chains r.key.node) (number 0) is) rs (on 0))) i
      ++ none_elsewhere (λ c. number (suc c)) (number 0) (λ c same. let no = apart (suc c) 0 same in omega (arith, no)) rss (λ c. on (suc c)) i)
      ∙ append-nil (runs_in rs)
  on_number number apart (rs ∷ rss) on (suc c) =
      filter-append (λ (r : Run). home chains r.key.node == number (suc c)) (runs_in rs) (flat_map runs_in rss)
      ∙ (λ i. keeps_none (λ (r : Run). home chains r.key.node == number (suc c)) (runs_in rs) (runs_weaker (λ node. (home chains node == number (suc c)) ≡ false) rs
      (all_weaker (λ (r : LockRow). home chains r.key.node ≡ number 0) (λ (r : LockRow). (home chains r.key.node == number (suc c)) ≡ false)
      (λ r is. false_from_ne_true _ (λ same. let no = apart 0 (suc c) (sym is
      ∙ eqb-true (home chains r.key.node) (number (suc c)) same) in omega (arith, no))) rs (on 0))) i
      ++ on_number (λ c. number (suc c)) (λ c d same. let next = apart (suc c) (suc d) same in omega (arith, next)) rss (λ c. on (suc c)) c i)

-- there are no more rows than runs
few_rows : (rs : List LockRow) → AllByRecursion (λ r. r.runs ≢ []) rs → length rs ≤ length (runs_in rs)
few_rows [] used = omega arith
few_rows (r ∷ rs) used =
    let rest = few_rows rs used.1 in
    let all = length-append (runs_of r) (runs_in rs) in
    let own = length-map r.runs (run_of r.key) in
    let some = one r.runs used.0 in
    omega (arith, rest, all, own, some)
  where
    one : (ss : List (Span Mark)) → ss ≢ [] → 1 ≤ length ss
    one [] none = absurd (none refl)
    one (s ∷ ss) some = omega arith

module _ {chains : ℕ} (v : LockRows) (limit : ℕ) (table : IsLockTable v limit chains) where
  -- a chain has no more rows than runs
  pub head_on : (c i : ℕ) → i < length (rows v c) → (t : LockTable) → record { limit = limit; chains = chains; marking = row_marks v } ≡ t → i < runs (on_chain t.chains c t.marking)
  head_on c i here t view =
      let few = few_rows (rows v c) (table.kept c).used in
      let on = ap length (on_number chains (λ d. d) (λ a b same. same) (row_lists v) (λ d. (table.kept d).at_home) c) in
      let long = runs_length (filter (λ r. home chains r.key.node == c) (table_runs v)) (runs-filter (λ r. home chains r.key.node == c) (table_runs v)
      (table_apart v limit table)) in
      let kept = ap runs (kept_nodes (λ n. home chains n == c) (table_runs v) (table_apart v limit table)) in
      let same = ap (λ (x : LockTable). runs (on_chain x.chains c x.marking)) view in
      omega (arith, here, few, on, long, kept, same)

  -- a place on a row is below the number of all runs
  pub run_on : (i : ℕ) → i < run_count v → (t : LockTable) → record { limit = limit; chains = chains; marking = row_marks v } ≡ t → i < runs t.marking
  run_on i here t view =
      let long = long_table v in
      let count = runs_kept (row_lists v) table.kept in
      let same = ap (λ (x : LockTable). runs x.marking) view in
      omega (arith, here, long, count, same)

  -- if a slot is free, so is one of the table's
  pub run_free : run_count v < limit_of v → (t : LockTable) → record { limit = limit; chains = chains; marking = row_marks v } ≡ t → runs t.marking < t.limit
  run_free some t view =
      let long = long_table v in
      let count = runs_kept (row_lists v) table.kept in
      let room = table.room in
      let few : runs (row_marks v) < limit = omega (arith, some, count, long, room) in
      subst (λ (x : LockTable). runs x.marking < x.limit) view few
