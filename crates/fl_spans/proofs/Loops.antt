-- Loops that take runs out of a chain, and the one that puts in all heads.
use Rattle.std.proofs.Common.{◌≡◌, ◌≢◌, ℕ, zero, suc, ◌+◌, ◌<◌, ◌≤◌, List, [], ◌∷◌, ◌++◌, length, map, take, drop}
use Rattle.std.proofs.Common.{get_or, replicate, sum_by, Option, Some}
use Rattle.std.proofs.Common.{None, is_some, false, slice_get, refl, sym, ap, ◌∙◌, inl, inr, arith}
use Rattle.std.specs.List.{insert, remove, AllByRecursion}
use Rattle.std.specs.Option.{option_map}
use Rattle.std.proofs.lemmas.Bool.{cases_eq}
use Rattle.std.proofs.lemmas.List.{get_or-set_same}
use Rattle.std.proofs.lemmas.List.Sums.{sum_by-cons, sum_by-insert}
use Rattle.fl_arena.specs.Chains.{Entry, Chains, entries, items, slot_at, item_count, free_count, with_entries}
use Rattle.fl_arena.specs.Chains.{HasSizeOf}
use Rattle.fl_arena.specs.Cursors.{index_of, Inserts}
use Rattle.fl_arena.specs.declared.cursors.Cursor.{Cursor}
use Rattle.fl_spans.specs.declared.rows.Head.{Head}
use Rattle.fl_spans.specs.Inside.Kept.{has_number}
use Rattle.fl_spans.proofs.Lists.{each_insert}
use Rattle.fl_spans.proofs.Weights.{number_counts, other_counts, count_changed}

module _ {X : Type 0} where
  drop_one_more : (xs : List X) (k : ℕ) → remove (drop k xs) 0 ≡ drop (suc k) xs
  drop_one_more [] zero = refl
  drop_one_more [] (suc k) = refl
  drop_one_more (x ∷ xs) zero = refl
  drop_one_more (x ∷ xs) (suc k) = drop_one_more xs k

  -- one more is taken out
  pub taken_more : (xs : List X) (i k : ℕ) → i ≤ k → remove (take i xs ++ drop k xs) i ≡ take i xs ++ drop (suc k) xs
  taken_more xs zero k less = drop_one_more xs k
  taken_more xs (suc i) zero less = absurd (omega (arith, less))
  taken_more [] (suc i) (suc k) less = refl
  taken_more (x ∷ xs) (suc i) (suc k) less = ap (λ l. x ∷ l) (taken_more xs i k (omega (arith, less)))

  -- a front of so many, and what stands behind it
  take_front : (xs ys : List X) (i : ℕ) → i ≤ length xs → take i (take i xs ++ ys) ≡ take i xs
  take_front xs ys zero less = refl
  take_front [] ys (suc i) less = absurd (omega (arith, less))
  take_front (x ∷ xs) ys (suc i) less = ap (λ l. x ∷ l) (take_front xs ys i (omega (arith, less)))

  drop_front : (xs ys : List X) (i : ℕ) → i ≤ length xs → drop i (take i xs ++ ys) ≡ ys
  drop_front xs ys zero less = refl
  drop_front [] ys (suc i) less = absurd (omega (arith, less))
  drop_front (x ∷ xs) ys (suc i) less = drop_front xs ys i (omega (arith, less))

  pub past_front : (xs ys : List X) (i : ℕ) → i ≤ length xs → i ≤ length (take i xs ++ ys)
  past_front xs ys zero less = omega arith
  past_front [] ys (suc i) less = absurd (omega (arith, less))
  past_front (x ∷ xs) ys (suc i) less = omega (arith, past_front xs ys i (omega (arith, less)))

  -- items that are put in behind a front
  pub put_behind : (xs ys l one two : List X) (i : ℕ) → i ≤ length xs → one ≡ take i xs ++ ys → two ≡ take i one ++ (l ++ drop i one)
      → two ≡ take i xs ++ (l ++ ys)
  put_behind xs ys l one two i less one_is two_is =
      two_is
      ∙ ap (λ o. take i o ++ (l ++ drop i o)) one_is
      ∙ (λ t. take_front xs ys i less t ++ (l ++ drop_front xs ys i less t))

  pub long_insert : (xs : List X) (i : ℕ) (y : X) → length (insert xs i y) ≡ length xs + 1
  long_insert xs zero y = omega arith
  long_insert [] (suc i) y = omega arith
  long_insert (x ∷ xs) (suc i) y = omega (arith, long_insert xs i y)

module _ {T : Type 0} where
  pub no_items : (a : Chains T) (c : ℕ) → slot_at a c 0 ≡ None → items a c ≡ []
  no_items a c none = go (entries a c) none
    where
      go : (es : List (Entry T)) → option_map (λ e. e.slot) (slice_get es 0) ≡ None → map (λ e. e.item) es ≡ []
      go [] is = refl
      go (e ∷ es) is = absurd (cc is)

  -- an arena as it is made
  pub made_empty : (n c : ℕ) → ◌≡◌ {A = List (Entry T)} (get_or (replicate n []) c []) []
  made_empty zero c = refl
  made_empty (suc n) zero = refl
  made_empty (suc n) (suc c) = made_empty n c

pub made_none : (T : Type 0) (n : ℕ) → sum_by (λ (es : List (Entry T)). length es) (replicate n []) ≡ 0
made_none T zero = refl
made_none T (suc n) = omega (arith, made_none T n, sum_by-cons (λ (es : List (Entry T)). length es) [] (replicate n []))

pub none_from : {A : Type 0} (o : Option A) → is_some o ≡ false → o ≡ None
none_from None none = refl
none_from (Some x) none = absurd (cc none)

module _ {K : Type 0} where
  -- heads with the numbers from one on, and no others
  pub record AreNumbered (heads : Chains (Head K)) (chain from count : ℕ) : Type 0 where
    pub others : (c : ℕ) → c ≢ chain → entries heads c ≡ []
    pub total : item_count heads + from ≡ count
    pub once : (m : ℕ) → from ≤ m → m < count → sum_by (has_number m) (entries heads chain) ≡ 1
    pub none : (m : ℕ) → m < from → sum_by (has_number m) (entries heads chain) ≡ 0
    pub named : AllByRecursion (λ e. e.item.runs < count) (entries heads chain)

  pub none_numbered : (heads : Chains (Head K)) (chain count : ℕ) → ((c : ℕ) → entries heads c ≡ []) → item_count heads ≡ 0 →
      AreNumbered heads chain count count
  none_numbered heads chain count empty none = record {
    others = λ c apart. empty c;
    total = omega (arith, none);
    once = λ m from upto. absurd (omega (arith, from, upto));
    none = λ m less. rw (empty chain) refl;
    named = rw (empty chain) tt;
  }

  -- one more
  pub one_numbered : (old new : Chains (Head K)) (chain from count i : ℕ) (e : Entry (Head K)) → AreNumbered old chain (from + 1) count →
      chain < length old.chains → e.item.runs ≡ from → HasSizeOf old new → entries new chain ≡ insert (entries old chain) i e →
      ((c : ℕ) → c ≢ chain → entries new c ≡ entries old c) → AreNumbered new chain from count
  one_numbered old new chain from count i e was within number size is others = record {
    others = λ c apart. others c apart ∙ was.others c apart;
    total = omega (arith, was.total, count_changed old new chain within size others, ap length is, long_insert (entries old chain) i e);
    once = λ m above upto. elim (cases_eq m from) [
      | inl same ↦ omega (arith, counts m, was.none m (omega (arith, same)), number_counts m e (number ∙ sym same))
      | inr other ↦ omega (arith, counts m, was.once m (omega (arith, above, other)) upto, other_counts m e (λ same. other (sym same ∙ number)))
    ];
    none = λ m less.
        omega (arith, counts m, was.none m (omega (arith, less)), other_counts m e (λ same. omega (arith, less, sym same ∙ number)));
    named = rw is (each_insert (λ x. x.item.runs < count) (entries old chain) i e was.named (let total = was.total in omega (arith, number, total)));
  }
    where
      counts : (m : ℕ) → sum_by (has_number m) (entries new chain) ≡ sum_by (has_number m) (entries old chain) + has_number m e
      counts m = ap (sum_by (has_number m)) is ∙ sum_by-insert (has_number m) (entries old chain) i e

  -- what its chain has once a head was put in
  pub head_in : (old new : Chains (Head K)) (chain : ℕ) (at at_new : Cursor) (h : Head K) → at.chain ≡ chain → chain < length old.chains →
      (it : Inserts old new at at_new h) →
      entries new chain ≡ insert (entries old chain) (index_of old at) (record { slot = it.slot; item = h })
  head_in old new chain at at_new h on within it =
      ap (λ a. entries a chain) it.chains
      ∙ ap (λ d. entries (with_entries old d (insert (entries old d) (index_of old at) (record { slot = it.slot; item = h }))) chain) on
      ∙ get_or-set_same old.chains chain (insert (entries old chain) (index_of old at) (record { slot = it.slot; item = h })) [] within

  -- there is a slot for one more
  pub room_for_head : (heads : Chains (Head K)) (chain from count : ℕ) → AreNumbered heads chain (from + 1) count → heads.slots ≡ count →
      free_count heads ≡ 0 → ⊥
  room_for_head heads chain from count was slots full = let total = was.total in omega (arith, total, slots, full)
