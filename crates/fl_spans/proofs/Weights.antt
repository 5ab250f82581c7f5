-- What heads weigh, when a chain of runs or the heads change.
use Rattle.std.proofs.Common.{◌≡◌, ◌≢◌, ℕ, zero, suc, ◌+◌, ◌<◌, ◌≤◌, List, [], ◌∷◌, length, sum_by, Some, slice_get}
use Rattle.std.proofs.Common.{refl, sym, ap}
use Rattle.std.proofs.Common.{◌∙◌, inl, inr, arith, eq-eqb}
use Rattle.std.specs.List.{insert, remove, AllByRecursion}
use Rattle.std.proofs.lemmas.Bool.{cases_eq, ne_eqb}
use Rattle.std.proofs.lemmas.List.{length-set, get_or-set_other}
use Rattle.std.proofs.lemmas.List.Sums.{sum_by-cons, sum_by-set, sum_by-remove, sum_by-insert}
use Rattle.std.proofs.lemmas.Option.{none-some, slice_get_within, get_or_from_slice_get}
use Rattle.fl_arena.specs.Chains.{Entry, Chains, entries, item_count, with_entries, HasSizeOf}
use Rattle.fl_arena.specs.Cursors.{without}
use Rattle.fl_spans.specs.declared.rows.Head.{Head}
use Rattle.fl_spans.specs.Inside.Kept.{has_number, runs_of}
use Rattle.fl_spans.proofs.Lists.{set_others}

module _ {K : Type 0} where
  pub number_counts : (m : ℕ) (e : Entry (Head K)) → e.item.runs ≡ m → has_number m e ≡ 1
  number_counts m e same = rw (eq-eqb e.item.runs m same) refl

  pub other_counts : (m : ℕ) (e : Entry (Head K)) → e.item.runs ≢ m → has_number m e ≡ 0
  other_counts m e other = rw (ne_eqb e.item.runs m other) refl

  -- if nothing has the number, each head has another
  pub none_has : (m : ℕ) (es : List (Entry (Head K))) → sum_by (has_number m) es ≡ 0 → AllByRecursion (λ e. e.item.runs ≢ m) es
  none_has m [] none = tt
  none_has m (e ∷ es) none = (
    λ same. omega (arith, number_counts m e same, sum_by-cons (has_number m) e es, none),
    none_has m es (omega (arith, sum_by-cons (has_number m) e es, none)),
  )

  -- a head that has it counts
  pub one_has : (m : ℕ) (es : List (Entry (Head K))) (i : ℕ) (e : Entry (Head K)) → slice_get es i ≡ Some e → e.item.runs ≡ m → 1 ≤ sum_by (has_number m) es
  one_has m [] i e found same = absurd (none-some e found)
  one_has m (x ∷ es) zero e found same =
      let is : x ≡ e = cc in
      omega (arith, sum_by-cons (has_number m) x es, number_counts m x (rw is same))
  one_has m (x ∷ es) (suc i) e found same = omega (arith, sum_by-cons (has_number m) x es, one_has m es i e found same)

module _ {K R : Type 0} (old new : Chains R) (m : ℕ) (others : (c : ℕ) → c ≢ m → entries new c ≡ entries old c) where
  runs_kept : (e : Entry (Head K)) → e.item.runs ≢ m → runs_of new e ≡ runs_of old e
  runs_kept e other = ap length (others e.item.runs other)

  -- the runs of heads of which none has the number, and of which one does
  list_kept : (es : List (Entry (Head K))) → sum_by (has_number m) es ≡ 0 → sum_by (runs_of new) es ≡ sum_by (runs_of old) es
  list_kept [] none = refl
  list_kept (e ∷ es) none =
      let count = sum_by-cons (has_number m) e es in
      let apart : e.item.runs ≢ m = λ same. omega (arith, number_counts m e same, count, none) in
      omega (arith, runs_kept e apart, sum_by-cons (runs_of new) e es, sum_by-cons (runs_of old) e es, list_kept es (omega (arith, count, none)))

  list_changed : (es : List (Entry (Head K))) → sum_by (has_number m) es ≡ 1 →
      sum_by (runs_of new) es + length (entries old m) ≡ sum_by (runs_of old) es + length (entries new m)
  list_changed [] one = absurd (omega (arith, one))
  list_changed (e ∷ es) one =
      let count = sum_by-cons (has_number m) e es in
      let after = sum_by-cons (runs_of new) e es in
      let before = sum_by-cons (runs_of old) e es in
      elim (cases_eq e.item.runs m) [
        | inl same ↦
            let rest = list_kept es (omega (arith, number_counts m e same, count, one)) in
            let its_new : runs_of new e ≡ length (entries new m) = ap (λ (n : ℕ). length (entries new n)) same in
            let its_old : runs_of old e ≡ length (entries old m) = ap (λ (n : ℕ). length (entries old n)) same in
            omega (arith, after, before, rest, its_new, its_old)
        | inr other ↦
            let rest = list_changed es (omega (arith, other_counts m e other, count, one)) in
            omega (arith, after, before, rest, runs_kept e other)
      ]

  chains_kept : (chains : List (List (Entry (Head K)))) → sum_by (λ es. sum_by (has_number m) es) chains ≡ 0 →
      sum_by (λ es. sum_by (runs_of new) es) chains ≡ sum_by (λ es. sum_by (runs_of old) es) chains
  chains_kept [] none = refl
  chains_kept (es ∷ chains) none =
      let count = sum_by-cons (λ es. sum_by (has_number m) es) es chains in
      omega (
        arith,
        sum_by-cons (λ es. sum_by (runs_of new) es) es chains,
        sum_by-cons (λ es. sum_by (runs_of old) es) es chains,
        list_kept es (omega (arith, count, none)),
        chains_kept chains (omega (arith, count, none)),
      )

  -- the runs of all heads, of which one has the number
  pub chains_changed : (chains : List (List (Entry (Head K)))) → sum_by (λ es. sum_by (has_number m) es) chains ≡ 1 →
      sum_by (λ es. sum_by (runs_of new) es) chains + length (entries old m) ≡ sum_by (λ es. sum_by (runs_of old) es) chains + length (entries new m)
  chains_changed [] one = absurd (omega (arith, one))
  chains_changed (es ∷ chains) one =
      let count = sum_by-cons (λ es. sum_by (has_number m) es) es chains in
      let after = sum_by-cons (λ es. sum_by (runs_of new) es) es chains in
      let before = sum_by-cons (λ es. sum_by (runs_of old) es) es chains in
      elim (cases_eq (sum_by (has_number m) es) 0) [
        | inl none ↦ omega (arith, after, before, list_kept es none, chains_changed chains (omega (arith, count, one, none)))
        | inr some ↦
            let it : sum_by (has_number m) es ≡ 1 = omega (arith, count, one, some) in
            omega (arith, after, before, list_changed es it, chains_kept chains (omega (arith, count, one, it)))
      ]

-- how many items there are once one chain has changed
pub count_changed : {T : Type 0} (old new : Chains T) (m : ℕ) → m < length old.chains → HasSizeOf old new →
    ((c : ℕ) → c ≢ m → entries new c ≡ entries old c) → item_count new + length (entries old m) ≡ item_count old + length (entries new m)
count_changed old new m within size others =
    let is = set_others [] old.chains new.chains m size.chains others in
    ap (λ cs. sum_by length cs + length (entries old m)) is ∙ sum_by-set length old.chains m (entries new m) [] within

module _ {T : Type 0} where
  -- the chains once an entry has left one of them and joined another
  abbrev pub moved_over : Chains T → ℕ → ℕ → ℕ → ℕ → Entry T → Chains T
  moved_over a c i d j e = with_entries (without a c i) d (insert (entries a d) j e)

  -- a measure of lists, that an entry adds to as it takes from it, is the same over all chains
  pub measure_kept : (f : List (Entry T) → ℕ) (a : Chains T) (c i d j w : ℕ) (e : Entry T) → c ≢ d → c < length a.chains → d < length a.chains →
      f (remove (entries a c) i) + w ≡ f (entries a c) → f (insert (entries a d) j e) ≡ f (entries a d) + w →
      sum_by f (moved_over a c i d j e).chains ≡ sum_by f a.chains
  measure_kept f a c i d j w e apart in_c in_d less more =
      let first = sum_by-set f a.chains c (remove (entries a c) i) [] in_c in
      let second = sum_by-set f (without a c i).chains d (insert (entries a d) j e) [] (omega (arith, in_d, length-set a.chains c (remove (entries a c) i))) in
      let same = ap f (get_or-set_other a.chains c d (remove (entries a c) i) [] (λ x. apart (sym x))) in
      omega (arith, first, second, same, less, more)

  -- so what all entries weigh is the same, if the one that goes over weighs what it did
  pub weight_kept : (w : Entry T → ℕ) (a : Chains T) (c i d j : ℕ) (e f : Entry T) → c ≢ d → c < length a.chains → d < length a.chains →
      slice_get (entries a c) i ≡ Some e → w f ≡ w e → sum_by (λ es. sum_by w es) (moved_over a c i d j f).chains ≡ sum_by (λ es. sum_by w es) a.chains
  weight_kept w a c i d j e f apart in_c in_d found same =
      let within = slice_get_within (entries a c) i e found in
      measure_kept (λ es. sum_by w es) a c i d j (w e) f apart in_c in_d
      (ap (λ x. sum_by w (remove (entries a c) i) + w x) (sym (get_or_from_slice_get (entries a c) i e e found)) ∙ sum_by-remove w (entries a c) i e within)
      (sum_by-insert w (entries a d) j f ∙ ap (λ k. sum_by w (entries a d) + k) same)
