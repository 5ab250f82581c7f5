-- What changes of the rows leave.
use Rattle.std.proofs.Common.{◌≡◌, ◌≢◌, ℕ, zero, suc, ◌-◌, ◌<◌, ◌≤◌, List, [], ◌∷◌, length, set, map, sum_by}
use Rattle.std.proofs.Common.{Some, slice_get, refl, sym, ap, ◌∙◌, inl, inr, arith}
use Rattle.std.specs.List.{insert, remove, AllByRecursion}
use Rattle.std.proofs.lemmas.Bool.{cases_eq}
use Rattle.std.proofs.lemmas.List.Sums.{sum_by-cons}
use Rattle.std.proofs.lemmas.Option.{none-some}
use Rattle.fl_arena.specs.Chains.{Entry, Chains, entries, items, HasSizeOf}
use Rattle.fl_spans.specs.declared.rows.Head.{Head}
use Rattle.fl_spans.specs.Rows.{row_lists, rows}
use Rattle.fl_spans.specs.Inside.Kept.{has_number, AreKept, AreRows}
use Rattle.fl_spans.proofs.Lists.{each_remove, each_insert, each_at}
use Rattle.fl_spans.proofs.Weights.{none_has, one_has, number_counts, other_counts, moved_over}
use Rattle.fl_spans.proofs.Kept.{IsOnly, is_only, kept_runs, kept_moved, chain_within, moved_to, moved_from, moved_past}
use Rattle.fl_spans.proofs.Values.{row_at, rows_at, rows_set, rows_kept, rows_changed, set_runs, remove_set}
use Rattle.fl_spans.proofs.Values.{row_removed, row_inserted}

module _ {K R : Type 0} (old new : Chains R) (m : ℕ) (others : (c : ℕ) → c ≢ m → entries new c ≡ entries old c) where
  -- heads that have runs, or have none, still do if theirs are on other chains
  used_other : (es : List (Entry (Head K))) → AllByRecursion (λ e. e.item.runs ≢ m) es → AllByRecursion (λ e. entries old e.item.runs ≢ []) es →
      AllByRecursion (λ e. entries new e.item.runs ≢ []) es
  used_other [] apart each = tt
  used_other (e ∷ es) apart each = (λ none. each.0 (sym (others e.item.runs apart.0) ∙ none), used_other es apart.1 each.1)

  spare_other : (es : List (Entry (Head K))) → AllByRecursion (λ e. e.item.runs ≢ m) es → AllByRecursion (λ e. entries old e.item.runs ≡ []) es →
      AllByRecursion (λ e. entries new e.item.runs ≡ []) es
  spare_other [] apart each = tt
  spare_other (e ∷ es) apart each = (others e.item.runs apart.0 ∙ each.0, spare_other es apart.1 each.1)

  -- and if this chain has runs, all do
  used_all : entries new m ≢ [] → (es : List (Entry (Head K))) → AllByRecursion (λ e. entries old e.item.runs ≢ []) es →
      AllByRecursion (λ e. entries new e.item.runs ≢ []) es
  used_all some [] each = tt
  used_all some (e ∷ es) each = (
    elim (cases_eq e.item.runs m) [
      | inl same ↦ rw same some
      | inr other ↦ λ none. each.0 (sym (others e.item.runs other) ∙ none)
    ],
    used_all some es each.1,
  )

module _ {K : Type 0} where
  -- without the one head that has the number, none has it
  left_apart : (es : List (Entry (Head K))) (i m : ℕ) (e : Entry (Head K)) → slice_get es i ≡ Some e → e.item.runs ≡ m → sum_by (has_number m) es ≡ 1 →
      AllByRecursion (λ x. x.item.runs ≢ m) (remove es i)
  left_apart [] i m e found same one = absurd (none-some e found)
  left_apart (x ∷ es) zero m e found same one =
      let is : x ≡ e = cc in
      none_has m es (omega (arith, one, sum_by-cons (has_number m) x es, number_counts m x (rw is same)))
  left_apart (x ∷ es) (suc i) m e found same one =
      let some = one_has m es i e found same in
      let other : x.item.runs ≢ m = λ its. omega (arith, one, some, sum_by-cons (has_number m) x es, number_counts m x its) in
      (other, left_apart es i m e found same (omega (arith, one, sum_by-cons (has_number m) x es, other_counts m x other)))

-- the runs of one head change
module _ {K R : Type 0} (heads : Chains (Head K)) (old new : Chains R) (n c i : ℕ) (e : Entry (Head K)) (h : AreRows heads old n)
    (found : slice_get (entries heads c) i ≡ Some e) (size : HasSizeOf old new)
    (others : (d : ℕ) → d ≢ e.item.runs → entries new d ≡ entries old d) where
  only : IsOnly heads c e.item.runs
  only = is_only heads old n c i e h.kept found

  kept : AreKept heads new n
  kept = kept_runs heads old new n e.item.runs h.kept (each_at (λ x. x.item.runs < old.slots) (entries heads c) i e (h.kept.named c) found) size others

  apart_at : (b : ℕ) → b ≢ c → AllByRecursion (λ x. x.item.runs ≢ e.item.runs) (entries heads b)
  apart_at b apart = none_has e.item.runs (entries heads b) (only.elsewhere b apart)

  -- a row that still has runs
  pub row_spliced : c < n → entries new e.item.runs ≢ [] → AreRows heads new n
  row_spliced less some = record {
    kept = kept;
    used = λ b within. used_all old new e.item.runs others some (entries heads b) (h.used b within);
    spare = spare_other old new e.item.runs others (entries heads n) (apart_at n (λ same. omega (arith, less, same))) h.spare;
  }

  pub rows_spliced : c < n → row_lists (record { heads = heads; runs = new })
      ≡ set (row_lists (record { heads = heads; runs = old })) c
      (set_runs (rows (record { heads = heads; runs = old }) c) i (items new e.item.runs))
  rows_spliced less =
      let count : length heads.chains - 1 ≡ n = omega (arith, h.kept.chains) in
      rows_set (record { heads = heads; runs = old }) (record { heads = heads; runs = new }) n c _ h.kept.chains h.kept.chains less
      (λ b apart _. rows_kept old new e.item.runs others (entries heads b) (only.elsewhere b apart))
      (rows_changed old new e.item.runs others (entries heads c) i e found refl only.here
      ∙ ap (λ rs. set_runs rs i (items new e.item.runs)) (sym (rows_at (record { heads = heads; runs = old }) c (omega (arith, less, count)))))

  -- a row that has none any more, whose head goes to the unused ones
  pub row_gone : c < n → entries new e.item.runs ≡ [] → AreRows (moved_over heads c i n 0 e) new n
  row_gone less none =
      let apart : c ≢ n = λ same. omega (arith, less, same) in
      let in_n : n < length heads.chains = omega (arith, h.kept.chains) in
      let in_c = chain_within heads c i e found in
      record {
        kept = kept_moved heads new n c i n 0 e e kept apart in_n found refl (omega arith);
        used = λ b within. elim (cases_eq b c) [
          | inl here ↦
              rw here (rw (moved_from heads c i n 0 e apart in_c)
              (used_other old new e.item.runs others (remove (entries heads c) i) (left_apart (entries heads c) i e.item.runs e found refl only.here)
              (each_remove (λ x. entries old x.item.runs ≢ []) (entries heads c) i (h.used c less))))
          | inr there ↦
              rw (moved_past heads c i n 0 b e there (λ same. omega (arith, within, same)))
              (used_other old new e.item.runs others (entries heads b) (apart_at b there) (h.used b within))
        ];
        spare =
            rw (moved_to heads c i n 0 e in_n) (each_insert (λ x. entries new x.item.runs ≡ []) (entries heads n) 0 e
            (spare_other old new e.item.runs others (entries heads n) (apart_at n (λ same. apart (sym same))) h.spare) none);
      }

  pub rows_gone : c < n → row_lists (record { heads = moved_over heads c i n 0 e; runs = new })
      ≡ set (row_lists (record { heads = heads; runs = old })) c (remove (rows (record { heads = heads; runs = old }) c) i)
  rows_gone less =
      let apart : c ≢ n = λ same. omega (arith, less, same) in
      let in_n : n < length heads.chains = omega (arith, h.kept.chains) in
      let in_c = chain_within heads c i e found in
      let count : length heads.chains - 1 ≡ n = omega (arith, h.kept.chains) in
      let moved = kept_moved heads new n c i n 0 e e kept apart in_n found refl (omega arith) in
      rows_set (record { heads = heads; runs = old }) (record { heads = moved_over heads c i n 0 e; runs = new }) n c _ h.kept.chains moved.chains less
      (λ b there within.
      ap (map (row_at new)) (moved_past heads c i n 0 b e there (λ same. omega (arith, within, same)))
      ∙ rows_kept old new e.item.runs others (entries heads b) (only.elsewhere b there))
      (ap (map (row_at new)) (moved_from heads c i n 0 e apart in_c)
      ∙ row_removed new (entries heads c) i
      ∙ ap (λ rs. remove rs i) (rows_changed old new e.item.runs others (entries heads c) i e found refl only.here)
      ∙ remove_set (map (row_at old) (entries heads c)) i (items new e.item.runs)
      ∙ ap (λ rs. remove rs i) (sym (rows_at (record { heads = heads; runs = old }) c (omega (arith, less, count)))))

-- an unused head gets a run, and goes to a row's place
module _ {K R : Type 0} (heads : Chains (Head K)) (old new : Chains R) (n c j : ℕ) (e f : Entry (Head K)) (h : AreRows heads old n)
    (found : slice_get (entries heads n) 0 ≡ Some e) (size : HasSizeOf old new)
    (others : (d : ℕ) → d ≢ e.item.runs → entries new d ≡ entries old d) (same : f.item.runs ≡ e.item.runs) (less : c < n)
    (within : j ≤ length (entries heads c)) (some : entries new e.item.runs ≢ []) where
  apart : n ≢ c
  apart is = omega (arith, less, is)

  in_c : c < length heads.chains
  in_c = omega (arith, less, h.kept.chains)

  in_n : n < length heads.chains
  in_n = omega (arith, h.kept.chains)

  only_there : IsOnly heads n e.item.runs
  only_there = is_only heads old n n 0 e h.kept found

  kept_after : AreKept (moved_over heads n 0 c j f) new n
  kept_after =
      kept_moved heads new n n 0 c j e f
      (kept_runs heads old new n e.item.runs h.kept (each_at (λ x. x.item.runs < old.slots) (entries heads n) 0 e (h.kept.named n) found) size others) apart
      in_c found same within

  pub row_added : AreRows (moved_over heads n 0 c j f) new n
  row_added = record {
    kept = kept_after;
    used = λ b fits. elim (cases_eq b c) [
      | inl here ↦
          rw here (rw (moved_to heads n 0 c j f in_c) (each_insert (λ x. entries new x.item.runs ≢ []) (entries heads c) j f
          (used_all old new e.item.runs others some (entries heads c) (h.used c less)) (rw same some)))
      | inr there ↦
          rw (moved_past heads n 0 c j b f (λ is. omega (arith, fits, is)) there)
          (used_all old new e.item.runs others some (entries heads b) (h.used b fits))
    ];
    spare =
        rw (moved_from heads n 0 c j f apart in_n)
        (spare_other old new e.item.runs others (remove (entries heads n) 0) (left_apart (entries heads n) 0 e.item.runs e found refl only_there.here)
        (each_remove (λ x. entries old x.item.runs ≡ []) (entries heads n) 0 h.spare));
  }

  pub rows_added : row_lists (record { heads = moved_over heads n 0 c j f; runs = new })
      ≡ set (row_lists (record { heads = heads; runs = old })) c
      (insert (rows (record { heads = heads; runs = old }) c) j (record { key = f.item.key; runs = items new e.item.runs }))
  rows_added =
      let count : length heads.chains - 1 ≡ n = omega (arith, h.kept.chains) in
      let none_here = rows_kept old new e.item.runs others (entries heads c) (only_there.elsewhere c (λ is. apart (sym is))) in
      rows_set (record { heads = heads; runs = old }) (record { heads = moved_over heads n 0 c j f; runs = new }) n c _ h.kept.chains kept_after.chains less
      (λ b there fits.
      ap (map (row_at new)) (moved_past heads n 0 c j b f (λ is. omega (arith, fits, is)) there)
      ∙ rows_kept old new e.item.runs others (entries heads b) (only_there.elsewhere b (λ is. omega (arith, fits, is))))
      (ap (map (row_at new)) (moved_to heads n 0 c j f in_c)
      ∙ row_inserted new (entries heads c) j f
      ∙ (λ t. insert (none_here t) j (record { key = f.item.key; runs = items new (same t) }))
      ∙ ap (λ rs. insert rs j (record { key = f.item.key; runs = items new e.item.runs }))
      (sym (rows_at (record { heads = heads; runs = old }) c (omega (arith, less, count)))))
