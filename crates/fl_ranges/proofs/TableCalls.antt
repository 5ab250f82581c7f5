-- The calls of a table: what contracts see of it.
use Rattle.std.proofs.Common.{◌≡◌, ℕ, ◌+◌, ◌-◌, ◌≤◌, zero, suc, List, [], ◌∷◌, ◌++◌, map, replicate, get_or, length, refl, ap, sym}
use Rattle.std.proofs.Common.{◌∙◌, subst, arith}
use Rattle.std.proofs.lemmas.List.{map-append, length-replicate}
use Rattle.std.proofs.lemmas.Simd.{map-map}
use Rattle.std.specs.List.{flat_map}
use Rattle.fl_spans.specs.Rows.{row_lists, chain_count, limit_of, run_count}
use Rattle.std.specs.FinMap.{empty}
use Rattle.fl_marks.specs.declared.run.Run.{Run}
use Rattle.fl_marks.specs.Marking.{Marking, marking_of}
use Rattle.fl_marks.specs.Runs.{runs}
use Rattle.fl_ranges.specs.LockTable.{LockTable}
use Rattle.fl_ranges.specs.Layout.{strokes_of, marking_in}
use Rattle.fl_ranges.specs.Inside.RunList.{AreRuns}
use Rattle.fl_ranges.specs.Setting.{meant}
use Rattle.fl_ranges.specs.Inside.LockRows.{LockRow, LockRows, row_marks, AreLockRows, IsLockTable}
use Rattle.fl_ranges.specs.Layout.{run_of, runs_of, runs_in, table_runs}
use Rattle.fl_ranges.proofs.RowRuns.{rows_are_runs, runs_kept}
use Rattle.fl_ranges.proofs.RowTables.{long_table}

-- what contracts see after a change
pub seen : (limit chains count : ℕ) (m n : Marking) (v : LockTable) (f : Marking → Marking) →
    record { limit = limit; chains = chains; marking = m } ≡ v → count ≡ chains → n ≡ f m →
    ◌≡◌ {A = LockTable} (record { limit = limit; chains = count; marking = n }) (record v { marking = f v.marking })
seen limit chains count m n v f view same is =
    let room : limit ≡ v.limit = ap (λ (t : LockTable). t.limit) view in
    let marks : n ≡ f v.marking = is ∙ ap (λ (t : LockTable). f t.marking) view in
    let many : count ≡ v.chains = same ∙ ap (λ (t : LockTable). t.chains) view in
    λ i. record { limit = room i; chains = many i; marking = marks i }

module _ {chains : ℕ} (v : LockRows) (limit : ℕ) (table : IsLockTable v limit chains) where
  -- the runs of a table are apart, and each is as long as it can be
  pub table_apart : AreRuns (table_runs v)
  table_apart = rows_are_runs (row_lists v) table.kept

  pub runs_counted : (free : ℕ) → run_count v + free ≡ limit_of v → limit - free ≡ runs (row_marks v)
  runs_counted free total =
      let long = long_table v in
      let count = runs_kept (row_lists v) table.kept in
      let room = table.room in
      omega (arith, long, count, room, total)

-- ---- a new table

none_on : (n c : ℕ) → ◌≡◌ {A = List LockRow} (get_or (replicate n []) c []) []
none_on zero c = refl
none_on (suc n) zero = refl
none_on (suc n) (suc c) = none_on n c

no_runs : (n : ℕ) → flat_map runs_in (replicate n []) ≡ []
no_runs zero = refl
no_runs (suc n) = no_runs n

empty_chain : (chains c : ℕ) → AreLockRows chains c []
empty_chain chains c = record { at_home = tt; in_order = tt; spans = tt; used = tt }

pub new_table : (v : LockRows) (limit chains : ℕ) → limit ≤ 65536 → 1 ≤ chains → row_lists v ≡ replicate chains [] → limit_of v ≡ limit →
    IsLockTable v limit (chain_count v)
new_table v limit chains small some is room =
    let count : chain_count v ≡ chains = ap length is ∙ length-replicate chains [] in
    record {
      count = refl;
      some = omega (arith, count, some);
      room = room;
      small = small;
      few = omega (arith, long_table v, ap (λ (l : List (List LockRow)). length (flat_map runs_in l)) is, ap length (no_runs chains));
      kept = λ c. subst (λ (l : List (List LockRow)). AreLockRows (chain_count v) c (get_or l c [])) (sym is)
          (subst (AreLockRows (chain_count v) c) (sym (none_on chains c)) (empty_chain (chain_count v) c));
    }

-- what contracts see of it
pub new_seen : (v : LockRows) (limit chains : ℕ) → row_lists v ≡ replicate chains [] →
    ◌≡◌ {A = LockTable} (record { limit = limit; chains = chain_count v; marking = row_marks v })
    (record { limit = limit; chains = chains; marking = empty })
new_seen v limit chains is =
    let count : chain_count v ≡ chains = ap length is ∙ length-replicate chains [] in
    let marks : row_marks v ≡ empty = ap (λ (l : List (List LockRow)). marking_of (map meant (flat_map runs_in l))) is
    ∙ ap (λ (rs : List Run). marking_of (map meant rs)) (no_runs chains) in
    λ i. record { limit = limit; chains = count i; marking = marks i }

-- ---- the rows as strokes

map_flat : {X A B : Type 0} (f : A → B) (g : X → List A) (h : X → List B) → ((x : X) → map f (g x) ≡ h x) → (xs : List X) →
    map f (flat_map g xs) ≡ flat_map h xs
map_flat f g h each [] = refl
map_flat f g h each (x ∷ xs) = map-append f (g x) (flat_map g xs) ∙ (λ i. each x i ++ map_flat f g h each xs i)

-- the strokes of the rows are those that the runs mean
pub marking_spelled : (v : LockRows) → marking_in v ≡ row_marks v
marking_spelled v =
    ap marking_of (sym (map_flat meant runs_in (λ (rs : List LockRow). flat_map strokes_of rs)
    (λ rs. map_flat meant runs_of strokes_of (λ r. map-map meant (run_of r.key) r.runs) rs) (row_lists v)))
