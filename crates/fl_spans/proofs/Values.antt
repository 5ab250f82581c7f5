-- The rows that contracts see, when a chain of runs changes, and when a head goes over to another chain.
use Rattle.std.proofs.Common.{◌≡◌, ◌≢◌, ℕ, zero, suc, ◌+◌, ◌-◌, ◌<◌, ◌≤◌, List, [], ◌∷◌, length, set, map, take, get_or}
use Rattle.std.proofs.Common.{sum_by, Some, slice_get, refl}
use Rattle.std.proofs.Common.{sym, ap, ◌∙◌, inl, inr, arith}
use Rattle.std.specs.List.{insert, remove, AllByRecursion}
use Rattle.std.proofs.lemmas.Bool.{cases_eq, cases_lt}
use Rattle.std.proofs.lemmas.List.{length-map, get_or_past}
use Rattle.std.proofs.lemmas.List.Sums.{sum_by-cons}
use Rattle.std.proofs.lemmas.Option.{none-some}
use Rattle.fl_arena.specs.Chains.{Entry, Chains, entries, items, item_count}
use Rattle.fl_spans.specs.declared.rows.Head.{Head}
use Rattle.fl_spans.specs.Rows.{Row, RowChains, row_of, chain_count, row_lists, rows, run_count, runs_at, with_runs}
use Rattle.fl_spans.specs.Rows.{number_at}
use Rattle.fl_spans.specs.Inside.Kept.{has_number, runs_of, AreRows}
use Rattle.fl_spans.proofs.Lists.{set_others, each_weaker, map_same, sum_but_last, mapped_at, mapped_past}
use Rattle.fl_spans.proofs.Weights.{none_has, one_has, number_counts, other_counts}

module _ {X Y : Type 0} where
  pub long_mapped : (f : List X → List Y) (xs : List (List X)) (n : ℕ) → n ≤ length xs → length (map f (take n xs)) ≡ n
  long_mapped f xs zero less = refl
  long_mapped f [] (suc n) less = absurd (omega (arith, less))
  long_mapped f (x ∷ xs) (suc n) less = ap suc (long_mapped f xs n (omega (arith, less)))

  -- lists that are mapped alike but for one
  mapped_set : (f g : List X → List Y) → f [] ≡ [] → g [] ≡ [] → (xs ys : List (List X)) (n c : ℕ) (z : List Y) → length xs ≡ n + 1 → length ys ≡ n + 1 →
      c < n → ((b : ℕ) → b ≢ c → b < n → g (get_or ys b []) ≡ f (get_or xs b [])) → g (get_or ys c []) ≡ z →
      map g (take n ys) ≡ set (map f (take n xs)) c z
  mapped_set f g none_f none_g xs ys n c z long_x long_y less same is =
      set_others [] (map f (take n xs)) (map g (take n ys)) c
      (long_mapped g ys n (omega (arith, long_y)) ∙ sym (long_mapped f xs n (omega (arith, long_x))))
      (λ b apart.
      elim (cases_lt b n) [
        | inl within ↦ mapped_at g none_g ys n b within ∙ same b apart within ∙ sym (mapped_at f none_f xs n b within)
        | inr past ↦ mapped_past g ys n b past ∙ sym (mapped_past f xs n b past)
      ])
      ∙ ap (set (map f (take n xs)) c) (mapped_at g none_g ys n c less ∙ is)

  map-insert : (f : X → Y) (xs : List X) (i : ℕ) (x : X) → map f (insert xs i x) ≡ insert (map f xs) i (f x)
  map-insert f xs zero x = refl
  map-insert f [] (suc i) x = refl
  map-insert f (y ∷ xs) (suc i) x = ap (λ l. f y ∷ l) (map-insert f xs i x)

  map-remove : (f : X → Y) (xs : List X) (i : ℕ) → map f (remove xs i) ≡ remove (map f xs) i
  map-remove f [] zero = refl
  map-remove f [] (suc i) = refl
  map-remove f (x ∷ xs) zero = refl
  map-remove f (x ∷ xs) (suc i) = ap (λ l. f x ∷ l) (map-remove f xs i)

module _ {K R : Type 0} where
  -- the row of an entry
  abbrev pub row_at : Chains R → Entry (Head K) → Row K R
  row_at runs e = row_of runs e.item

  -- there is a chain of rows for each of heads but one
  pub chains_counted : (v : RowChains K R) → chain_count v ≡ length v.heads.chains - 1
  chains_counted v = long_mapped (λ es. map (row_at v.runs) es) v.heads.chains (length v.heads.chains - 1) (omega arith)

  -- the rows of a chain are those of its heads
  pub rows_at : (v : RowChains K R) (c : ℕ) → c < length v.heads.chains - 1 → rows v c ≡ map (row_at v.runs) (entries v.heads c)
  rows_at v c within = mapped_at (λ es. map (row_at v.runs) es) refl v.heads.chains (length v.heads.chains - 1) c within

  pub rows_are : (v : RowChains K R) (c : ℕ) → c < chain_count v → rows v c ≡ map (row_at v.runs) (entries v.heads c)
  rows_are v c within = rows_at v c (omega (arith, within, chains_counted v))

  -- all rows, when those of one chain have changed
  pub rows_set : (v w : RowChains K R) (n c : ℕ) (z : List (Row K R)) → length v.heads.chains ≡ n + 1 → length w.heads.chains ≡ n + 1 → c < n →
      ((b : ℕ) → b ≢ c → b < n → map (row_at w.runs) (entries w.heads b) ≡ map (row_at v.runs) (entries v.heads b)) →
      map (row_at w.runs) (entries w.heads c) ≡ z → row_lists w ≡ set (row_lists v) c z
  rows_set v w n c z long_v long_w less same is =
      let first : length v.heads.chains - 1 ≡ n = omega (arith, long_v) in
      let second : length w.heads.chains - 1 ≡ n = omega (arith, long_w) in
      rw (first, second) (mapped_set (λ es. map (row_at v.runs) es) (λ es. map (row_at w.runs) es) refl refl v.heads.chains w.heads.chains n c z long_v long_w
      less same is)

  -- the rows with other runs in one of them, which stays if it has none
  abbrev pub set_runs : List (Row K R) → ℕ → List R → List (Row K R)
  set_runs [] i runs = []
  set_runs (r ∷ rs) zero runs = record r { runs = runs } ∷ rs
  set_runs (r ∷ rs) (suc i) runs = r ∷ set_runs rs i runs

  pub with_some : (rs : List (Row K R)) (i : ℕ) (x : R) (xs : List R) → set_runs rs i (x ∷ xs) ≡ with_runs rs i (x ∷ xs)
  with_some [] i x xs = refl
  with_some (r ∷ rs) zero x xs = refl
  with_some (r ∷ rs) (suc i) x xs = ap (λ l. r ∷ l) (with_some rs i x xs)

  pub with_none : (rs : List (Row K R)) (i : ℕ) → remove (set_runs rs i []) i ≡ with_runs rs i []
  with_none [] zero = refl
  with_none [] (suc i) = refl
  with_none (r ∷ rs) zero = refl
  with_none (r ∷ rs) (suc i) = ap (λ l. r ∷ l) (with_none rs i)

  pub remove_set : (rs : List (Row K R)) (i : ℕ) (xs : List R) → remove (set_runs rs i xs) i ≡ remove rs i
  remove_set [] zero xs = refl
  remove_set [] (suc i) xs = refl
  remove_set (r ∷ rs) zero xs = refl
  remove_set (r ∷ rs) (suc i) xs = ap (λ l. r ∷ l) (remove_set rs i xs)

module _ {K : Type 0} where
  pub number_there : (es : List (Entry (Head K))) (i : ℕ) (e : Entry (Head K)) → slice_get es i ≡ Some e → number_at es i ≡ e.item.runs
  number_there [] i e found = absurd (none-some e found)
  number_there (x ∷ es) zero e found = let is : x ≡ e = cc in ap (λ y. y.item.runs) is
  number_there (x ∷ es) (suc i) e found = number_there es i e found

module _ {K R : Type 0} (old new : Chains R) (m : ℕ) (others : (c : ℕ) → c ≢ m → entries new c ≡ entries old c) where
  -- a row whose runs are on another chain is as it was
  row_kept : (e : Entry (Head K)) → e.item.runs ≢ m → row_at new e ≡ row_at old e
  row_kept e other = ap (λ es. record { key = e.item.key; runs = map (λ x. x.item) es }) (others e.item.runs other)

  pub rows_kept : (es : List (Entry (Head K))) → sum_by (has_number m) es ≡ 0 → map (row_at new) es ≡ map (row_at old) es
  rows_kept es none =
      map_same (row_at new) (row_at old) es
      (each_weaker (λ e. e.item.runs ≢ m) (λ e. row_at new e ≡ row_at old e) row_kept es (none_has m es none))

  -- the one row whose runs they are has them
  pub rows_changed : (es : List (Entry (Head K))) (i : ℕ) (e : Entry (Head K)) → slice_get es i ≡ Some e → e.item.runs ≡ m → sum_by (has_number m) es ≡ 1 →
      map (row_at new) es ≡ set_runs (map (row_at old) es) i (items new m)
  rows_changed [] i e found same one = absurd (none-some e found)
  rows_changed (x ∷ es) zero e found same one =
      let is : x ≡ e = cc in
      let its : x.item.runs ≡ m = rw is same in
      let rest = rows_kept es (omega (arith, one, sum_by-cons (has_number m) x es, number_counts m x its)) in
      λ t. record { key = x.item.key; runs = items new (its t) } ∷ rest t
  rows_changed (x ∷ es) (suc i) e found same one =
      let some = one_has m es i e found same in
      let other : x.item.runs ≢ m = λ its. omega (arith, one, some, sum_by-cons (has_number m) x es, number_counts m x its) in
      let rest = rows_changed es i e found same (omega (arith, one, sum_by-cons (has_number m) x es, other_counts m x other)) in
      λ t. row_kept x other t ∷ rest t

module _ {K R : Type 0} where
  pub row_removed : (runs : Chains R) (es : List (Entry (Head K))) (i : ℕ) → map (row_at runs) (remove es i) ≡ remove (map (row_at runs) es) i
  row_removed runs es i = map-remove (row_at runs) es i

  pub row_inserted : (runs : Chains R) (es : List (Entry (Head K))) (i : ℕ) (e : Entry (Head K)) →
      map (row_at runs) (insert es i e) ≡ insert (map (row_at runs) es) i (row_at runs e)
  row_inserted runs es i e = map-insert (row_at runs) es i e

  -- the runs of the row at an index are those on the chain that its head names
  pub runs_there : (runs : Chains R) (es : List (Entry (Head K))) (i : ℕ) (e : Entry (Head K)) → slice_get es i ≡ Some e →
      runs_at (map (row_at runs) es) i ≡ items runs (number_at es i)
  runs_there runs [] i e found = absurd (none-some e found)
  runs_there runs (x ∷ es) zero e found = refl
  runs_there runs (x ∷ es) (suc i) e found = runs_there runs es i e found

  -- ---- numbers

  list_count : (runs : Chains R) (es : List (Entry (Head K))) → sum_by (λ r. length r.runs) (map (row_at runs) es) ≡ sum_by (runs_of runs) es
  list_count runs [] = refl
  list_count runs (e ∷ es) =
      omega (
        arith,
        sum_by-cons (λ r. length r.runs) (row_at runs e) (map (row_at runs) es),
        sum_by-cons (runs_of runs) e es,
        length-map (entries runs e.item.runs) (λ x. x.item),
        list_count runs es,
      )

  lists_count : (runs : Chains R) (chains : List (List (Entry (Head K)))) →
      sum_by (λ rs. sum_by (λ r. length r.runs) rs) (map (λ es. map (row_at runs) es) chains) ≡ sum_by (λ es. sum_by (runs_of runs) es) chains
  lists_count runs [] = refl
  lists_count runs (es ∷ chains) =
      omega (
        arith,
        sum_by-cons (λ rs. sum_by (λ r. length r.runs) rs) (map (row_at runs) es) (map (λ xs. map (row_at runs) xs) chains),
        sum_by-cons (λ xs. sum_by (runs_of runs) xs) es chains,
        list_count runs es,
        lists_count runs chains,
      )

  pub none_held : (runs : Chains R) (es : List (Entry (Head K))) → AllByRecursion (λ e. entries runs e.item.runs ≡ []) es → sum_by (runs_of runs) es ≡ 0
  none_held runs [] each = refl
  none_held runs (e ∷ es) each = omega (arith, sum_by-cons (runs_of runs) e es, ap length each.0, none_held runs es each.1)

  -- all runs are those of the rows
  pub counted : (heads : Chains (Head K)) (runs : Chains R) (n : ℕ) → AreRows heads runs n →
      run_count (record { heads = heads; runs = runs }) ≡ item_count runs
  counted heads runs n h =
      let long = h.kept.chains in
      let first : length heads.chains - 1 ≡ n = omega (arith, long) in
      let whole = sum_but_last (λ es. sum_by (runs_of runs) es) [] heads.chains n long in
      let spare = none_held runs (entries heads n) h.spare in
      rw first (omega (arith, lists_count runs (take n heads.chains), whole, spare, h.kept.all))

  some_held : (runs : Chains R) (es : List (Entry (Head K))) → AllByRecursion (λ e. entries runs e.item.runs ≢ []) es → length es ≤ sum_by (runs_of runs) es
  some_held runs [] each = omega arith
  some_held runs (e ∷ es) each = omega (arith, sum_by-cons (runs_of runs) e es, some_held runs es each.1, not_none (entries runs e.item.runs) each.0)
    where
      not_none : (xs : List (Entry R)) → xs ≢ [] → 1 ≤ length xs
      not_none [] some = absurd (some refl)
      not_none (x ∷ xs) some = omega arith

  all_held : (runs : Chains R) (chains : List (List (Entry (Head K)))) →
      ((c : ℕ) → AllByRecursion (λ e. entries runs e.item.runs ≢ []) (get_or chains c [])) →
      sum_by length chains ≤ sum_by (λ es. sum_by (runs_of runs) es) chains
  all_held runs [] each = omega arith
  all_held runs (es ∷ chains) each =
      omega (
        arith,
        sum_by-cons length es chains,
        sum_by-cons (λ xs. sum_by (runs_of runs) xs) es chains,
        some_held runs es (each 0),
        all_held runs chains (λ c. each (suc c)),
      )

  -- if no head is unused, each slot has a run
  pub none_unused : (heads : Chains (Head K)) (runs : Chains R) (n : ℕ) → AreRows heads runs n → entries heads n ≡ [] → runs.slots ≤ item_count runs
  none_unused heads runs n h none =
      let whole = all_held runs heads.chains each in
      omega (arith, whole, h.kept.count, h.kept.all)
    where
      each : (c : ℕ) → AllByRecursion (λ e. entries runs e.item.runs ≢ []) (entries heads c)
      each c =
          elim (cases_lt c n) [
            | inl used ↦ h.used c used
            | inr past ↦ elim (cases_eq c n) [
              | inl last ↦ rw (last, none) tt
              | inr beyond ↦ rw (get_or_past heads.chains c [] (omega (arith, past, beyond, h.kept.chains))) tt
            ]
          ]
