-- Rows as they are made.
use Rattle.std.proofs.Common.{◌≡◌, ◌≢◌, ℕ, zero, suc, ◌+◌, ◌-◌, ◌<◌, ◌≤◌, List, [], ◌∷◌, length, map, take, get_or}
use Rattle.std.proofs.Common.{replicate}
use Rattle.std.proofs.Common.{sum_by, refl, sym, ap, ◌∙◌, subst}
use Rattle.std.proofs.Common.{inl, inr, arith}
use Rattle.std.specs.List.{AllByRecursion}
use Rattle.std.proofs.lemmas.Bool.{cases_eq, cases_lt}
use Rattle.std.proofs.lemmas.List.{length-replicate}
use Rattle.std.proofs.lemmas.List.Sums.{sum_by-cons}
use Rattle.fl_arena.specs.Chains.{Chains, entries, item_count, HasSizeOf}
use Rattle.fl_spans.specs.declared.rows.Head.{Head}
use Rattle.fl_spans.specs.Rows.{Row, row_lists}
use Rattle.fl_spans.specs.Inside.Kept.{has_number, runs_of, AreRows}
use Rattle.fl_spans.proofs.Lists.{same_lists, mapped_at, mapped_past}
use Rattle.fl_spans.proofs.Values.{row_at, none_held, long_mapped}
use Rattle.fl_spans.proofs.Loops.{made_empty, made_none}

module _ {X : Type 0} where
  -- lists of which none has an item weigh nothing, and of which one has, as much as that one
  all_none : (f : List X → ℕ) → f [] ≡ 0 → (xs : List (List X)) → ((c : ℕ) → get_or xs c [] ≡ []) → sum_by f xs ≡ 0
  all_none f none [] each = refl
  all_none f none (x ∷ xs) each = omega (arith, sum_by-cons f x xs, ap f (each 0), none, all_none f none xs (λ c. each (suc c)))

  only_at : (f : List X → ℕ) → f [] ≡ 0 → (xs : List (List X)) (n : ℕ) → ((c : ℕ) → c ≢ n → get_or xs c [] ≡ []) → sum_by f xs ≡ f (get_or xs n [])
  only_at f none [] n each = sym none
  only_at f none (x ∷ xs) zero each =
      omega (arith, sum_by-cons f x xs, all_none f none xs (λ c. each (suc c) (λ e. omega (arith, e))))
  only_at f none (x ∷ xs) (suc n) each =
      omega (
        arith,
        sum_by-cons f x xs,
        ap f (each 0 (λ e. omega (arith, e))),
        none,
        only_at f none xs n (λ c apart. each (suc c) (λ e. apart (omega (arith, e)))),
      )

  each_from : (P : X → Type 0) → ((x : X) → P x) → (xs : List X) → AllByRecursion P xs
  each_from P all [] = tt
  each_from P all (x ∷ xs) = (all x, each_from P all xs)

module _ {K R : Type 0} (start heads : Chains (Head K)) (runs : Chains R) (n limit : ℕ) (few : n < 65536) (small : limit ≤ 65536)
    (start_is : start ≡ record { chains = replicate (n + 1) []; slots = limit }) (runs_are : runs ≡ record { chains = replicate limit []; slots = limit })
    (size : HasSizeOf start heads) (others : (c : ℕ) → c ≢ n → entries heads c ≡ []) where
  long : length heads.chains ≡ n + 1
  long = size.chains ∙ ap (λ a. length a.chains) start_is ∙ length-replicate (n + 1) []

  slots : runs.slots ≡ limit
  slots = ap (λ a. a.slots) runs_are

  no_runs : (m : ℕ) → entries runs m ≡ []
  no_runs m = ap (λ a. entries a m) runs_are ∙ made_empty limit m

  pub made : item_count heads ≡ limit → ((m : ℕ) → m < limit → sum_by (has_number m) (entries heads n) ≡ 1) →
      AllByRecursion (λ e. e.item.runs < limit) (entries heads n) → AreRows heads runs n
  made count once named = record {
    kept = record {
      chains = long;
      few_chains = few;
      count = count ∙ sym slots;
      slots = size.slots ∙ ap (λ a. a.slots) start_is ∙ sym slots;
      numbers = ap (λ a. length a.chains) runs_are ∙ length-replicate limit [] ∙ sym slots;
      small = omega (arith, small, slots);
      once = λ m less. only_at (λ es. sum_by (has_number m) es) refl heads.chains n others ∙ once m (omega (arith, less, slots));
      named = λ c. elim (cases_eq c n) [
        | inl here ↦ rw here (subst (λ s. AllByRecursion (λ e. e.item.runs < s) (entries heads n)) (sym slots) named)
        | inr there ↦ rw (others c there) tt
      ];
      all =
          only_at (λ es. sum_by (runs_of runs) es) refl heads.chains n others
          ∙ none_held runs (entries heads n) (each_from (λ e. entries runs e.item.runs ≡ []) (λ e. no_runs e.item.runs) (entries heads n))
          ∙ sym (ap item_count runs_are ∙ made_none R limit);
    };
    used = λ c less. rw (others c (λ e. omega (arith, less, e))) tt;
    spare = each_from (λ e. entries runs e.item.runs ≡ []) (λ e. no_runs e.item.runs) (entries heads n);
  }

  pub made_rows : row_lists (record { heads = heads; runs = runs }) ≡ replicate n []
  made_rows =
      let count : length heads.chains - 1 ≡ n = omega (arith, long) in
      rw count (same_lists [] (replicate n []) (map (λ es. map (row_at runs) es) (take n heads.chains))
      (long_mapped (λ es. map (row_at runs) es) heads.chains n (omega (arith, long)) ∙ sym (length-replicate n []))
      (λ c. elim (cases_lt c n) [
        | inl within ↦
            mapped_at (λ es. map (row_at runs) es) refl heads.chains n c within
            ∙ ap (map (row_at runs)) (others c (λ e. omega (arith, within, e)))
            ∙ sym (none_at n c)
        | inr past ↦ mapped_past (λ es. map (row_at runs) es) heads.chains n c past ∙ sym (none_at n c)
      ]))
    where
      none_at : (k c : ℕ) → ◌≡◌ {A = List (Row K R)} (get_or (replicate k []) c []) []
      none_at zero c = refl
      none_at (suc k) zero = refl
      none_at (suc k) (suc c) = none_at k c
