-- The heads and the runs stay in order when a chain of runs changes, and when a head goes over to another chain.
use Rattle.std.proofs.Common.{◌≡◌, ◌≢◌, ℕ, ◌<◌, ◌≤◌, [], length, sum_by, Some, slice_get, cond, ◌==◌, refl, sym, ap}
use Rattle.std.proofs.Common.{◌∙◌, subst, inl, inr, arith}
use Rattle.std.specs.List.{insert, remove, AllByRecursion}
use Rattle.std.proofs.lemmas.Bool.{cases_eq, cases_lt}
use Rattle.std.proofs.lemmas.List.{get_or_past, length-set, get_or-set_other, get_or-set_same}
use Rattle.std.proofs.lemmas.List.Edits.{length-remove, length-insert}
use Rattle.std.proofs.lemmas.List.Sums.{sum_by-set}
use Rattle.std.proofs.lemmas.Option.{none-some, slice_get_within}
use Rattle.fl_arena.specs.Chains.{Entry, Chains, entries, HasSizeOf}
use Rattle.fl_arena.specs.Cursors.{without}
use Rattle.fl_spans.specs.declared.rows.Head.{Head}
use Rattle.fl_spans.specs.Inside.Kept.{has_number, runs_of, AreKept}
use Rattle.fl_spans.proofs.Lists.{two_places, each_remove, each_insert, each_at}
use Rattle.fl_spans.proofs.Weights.{one_has, chains_changed, count_changed, moved_over, measure_kept, weight_kept}

module _ {T : Type 0} where
  -- an entry is on one of the chains
  pub chain_within : (a : Chains T) (c i : ℕ) (e : Entry T) → slice_get (entries a c) i ≡ Some e → c < length a.chains
  chain_within a c i e found =
      elim (cases_lt c (length a.chains)) [
        | inl within ↦ within
        | inr past ↦
            let none = get_or_past a.chains c [] past in
            absurd (none-some e (rw none at found))
      ]

  -- what each chain has once an entry has gone over to another
  pub moved_to : (a : Chains T) (c i d j : ℕ) (e : Entry T) → d < length a.chains → entries (moved_over a c i d j e) d ≡ insert (entries a d) j e
  moved_to a c i d j e within =
      get_or-set_same (without a c i).chains d (insert (entries a d) j e) [] (omega (arith, within, length-set a.chains c (remove (entries a c) i)))

  pub moved_from : (a : Chains T) (c i d j : ℕ) (e : Entry T) → c ≢ d → c < length a.chains → entries (moved_over a c i d j e) c ≡ remove (entries a c) i
  moved_from a c i d j e apart within =
      get_or-set_other (without a c i).chains d c (insert (entries a d) j e) [] apart
      ∙ get_or-set_same a.chains c (remove (entries a c) i) [] within

  pub moved_past : (a : Chains T) (c i d j b : ℕ) (e : Entry T) → b ≢ c → b ≢ d → entries (moved_over a c i d j e) b ≡ entries a b
  moved_past a c i d j b e not_c not_d =
      get_or-set_other (without a c i).chains d b (insert (entries a d) j e) [] not_d
      ∙ get_or-set_other a.chains c b (remove (entries a c) i) [] not_c

  -- what holds of all entries still does
  pub each_moved : (P : Entry T → Type 0) (a : Chains T) (c i d j b : ℕ) (e : Entry T) → c ≢ d → c < length a.chains → d < length a.chains →
      AllByRecursion P (entries a b) → P e → AllByRecursion P (entries (moved_over a c i d j e) b)
  each_moved P a c i d j b e apart in_c in_d each it =
      elim (cases_eq b d) [
        | inl there ↦
            let was : AllByRecursion P (entries a d) = subst (λ k. AllByRecursion P (entries a k)) there each in
            rw there (rw (moved_to a c i d j e in_d) (each_insert P (entries a d) j e was it))
        | inr not_d ↦
            elim (cases_eq b c) [
              | inl here ↦
                  let was : AllByRecursion P (entries a c) = subst (λ k. AllByRecursion P (entries a k)) here each in
                  rw here (rw (moved_from a c i d j e apart in_c) (each_remove P (entries a c) i was))
              | inr not_c ↦ rw (moved_past a c i d j b e not_c not_d) each
            ]
      ]

module _ {K : Type 0} where
  -- a head's number, and that no other head has it
  pub record IsOnly (heads : Chains (Head K)) (c m : ℕ) : Type 0 where
    pub here : sum_by (has_number m) (entries heads c) ≡ 1
    pub elsewhere : (b : ℕ) → b ≢ c → sum_by (has_number m) (entries heads b) ≡ 0

module _ {K R : Type 0} where
  pub kept_runs : (heads : Chains (Head K)) (old new : Chains R) (n m : ℕ) → AreKept heads old n → m < old.slots → HasSizeOf old new →
      ((c : ℕ) → c ≢ m → entries new c ≡ entries old c) → AreKept heads new n
  kept_runs heads old new n m h within size others =
      let slots = size.slots in
      let numbers = h.numbers in
      record {
        chains = h.chains;
        few_chains = h.few_chains;
        count = h.count ∙ sym size.slots;
        slots = h.slots ∙ sym size.slots;
        numbers = size.chains ∙ h.numbers ∙ sym size.slots;
        small = let small = h.small in omega (arith, small, slots);
        once = λ k less. h.once k (omega (arith, less, slots));
        named = λ c. subst (λ (s : ℕ). AllByRecursion (λ (e : Entry (Head K)). e.item.runs < s) (entries heads c)) (sym size.slots) (h.named c);
        all =
            omega (
              arith,
              chains_changed old new m others heads.chains (h.once m within),
              count_changed old new m (omega (arith, within, numbers)) size others,
              h.all,
            );
      }

  -- the head may get another key on the way
  pub kept_moved : (heads : Chains (Head K)) (runs : Chains R) (n c i d j : ℕ) (e f : Entry (Head K)) → AreKept heads runs n → c ≢ d →
      d < length heads.chains → slice_get (entries heads c) i ≡ Some e → f.item.runs ≡ e.item.runs → j ≤ length (entries heads d) →
      AreKept (moved_over heads c i d j f) runs n
  kept_moved heads runs n c i d j e f h apart in_d found same within =
      let in_c = chain_within heads c i e found in
      let in_chain = slice_get_within (entries heads c) i e found in
      record {
        chains = length-set (without heads c i).chains d (insert (entries heads d) j f) ∙ length-set heads.chains c (remove (entries heads c) i) ∙ h.chains;
        few_chains = h.few_chains;
        count =
            measure_kept length heads c i d j 1 f apart in_c in_d (length-remove (entries heads c) i in_chain)
            (omega (arith, length-insert (entries heads d) j f within))
            ∙ h.count;
        slots = h.slots;
        numbers = h.numbers;
        small = h.small;
        once = λ k less.
            weight_kept (has_number k) heads c i d j e f apart in_c in_d found (ap (λ m. cond (m == k) 1 0) same) ∙ h.once k less;
        named = λ b. each_moved (λ x. x.item.runs < runs.slots) heads c i d j b f apart in_c in_d (h.named b)
            (rw same (each_at (λ x. x.item.runs < runs.slots) (entries heads c) i e (h.named c) found));
        all = weight_kept (runs_of runs) heads c i d j e f apart in_c in_d found (ap (λ m. length (entries runs m)) same) ∙ h.all;
      }

  pub is_only : (heads : Chains (Head K)) (runs : Chains R) (n c i : ℕ) (e : Entry (Head K)) → AreKept heads runs n → slice_get (entries heads c) i ≡ Some e →
      IsOnly heads c e.item.runs
  is_only heads runs n c i e h found =
      let m = e.item.runs in
      let in_c = chain_within heads c i e found in
      let some = one_has m (entries heads c) i e found refl in
      let less = each_at (λ x. x.item.runs < runs.slots) (entries heads c) i e (h.named c) found in
      let one = h.once m less in
      record {
        here = omega (arith, some, one, sum_by-set (λ es. sum_by (has_number m) es) heads.chains c [] [] in_c);
        elsewhere = λ b apart.
            elim (cases_lt b (length heads.chains)) [
              | inl in_b ↦ omega (arith, some, one, two_places [] (λ es. sum_by (has_number m) es) heads.chains c b refl (λ same. apart (sym same)) in_c in_b)
              | inr past ↦ rw (get_or_past heads.chains b [] past) refl
            ];
      }
