-- Chains of entries, each number on one of them, as one finite map.
use Rattle.std.proofs.Common.{◌≡◌, ◌≢◌, ℕ, zero, suc, ◌+◌, Bool, true, false, cond, ◌==◌, sum_by, slice_index_or}
use Rattle.std.proofs.Common.{Option, Some, None, IsSome, is_some, List, [], ◌∷◌, ◌++◌, length, refl, ap, sym, ◌∙◌, subst, arith}
use Rattle.std.specs.Prelude.{map as each, replicate}
use Rattle.std.proofs.lemmas.Bool.Decides.{nat_tests}
use Rattle.std.proofs.lemmas.Bool.{eqb-true}
use Rattle.std.proofs.lemmas.List.{length-map, length-replicate}
use Rattle.std.proofs.lemmas.List.Sums.{sum_by-cons}
use Rattle.std.proofs.lemmas.Option.{none-some}
use Rattle.std.specs.Option.{option_or}
use Rattle.std.specs.Ordering.{nat_cmp, eq_by_cmp}
use Rattle.std.specs.Cmp.{nat_cmp_total}
use Rattle.std.specs.FinMap as map
use Rattle.std.specs.FinMap.Entries as rising
use Rattle.fl_arena.specs.Chains.{Entry, Chains, items, item_count}
use Rattle.fl_dir.specs.Arenas.{joined, values_on}
use Rattle.fl_dir.specs.Inside.Spread.{at, AreSorted, IsEach, IsAltered}
use Rattle.fl_dir.proofs.Entries.{head_below, rest_sorted, none_above}

pub none_of : {A : Type 0} (o : Option A) → ((x : A) → o ≡ Some x → ⊥) → o ≡ None
none_of None never = refl
none_of (Some x) never = absurd (never x refl)

pub some_of : {A : Type 0} (o : Option A) → IsSome o → (x : A) × (o ≡ Some x)
some_of None h = absurd (cc h)
some_of (Some x) h = (x, refl)

or_none : {A : Type 0} (o : Option A) → option_or o None ≡ o
or_none None = refl
or_none (Some x) = refl

pub same_key : (q k : ℕ) → eq_by_cmp nat_cmp q k ≡ true → q ≡ k
same_key q k is = grind (arith, nat_tests)

pub own_key : (q : ℕ) → eq_by_cmp nat_cmp q q ≡ true
own_key q = grind (arith, nat_tests)

module _ {X : Type 0} where
  -- the items of one of these chains
  abbrev chain : List (List (Entry (ℕ × X))) → ℕ → List (ℕ × X)
  chain cs d = each (λ e. e.item) (slice_index_or cs d [])

  pub find_after : (es fs : List (ℕ × X)) (q : ℕ) → rising.find nat_cmp q (es ++ fs) ≡ option_or (rising.find nat_cmp q es) (rising.find nat_cmp q fs)
  find_after [] fs q = refl
  find_after (e ∷ es) fs q = go (eq_by_cmp nat_cmp q e.0) (find_after es fs q)
    where
      go : (b : Bool) → rising.find nat_cmp q (es ++ fs) ≡ option_or (rising.find nat_cmp q es) (rising.find nat_cmp q fs) →
          cond b (Some e.1) (rising.find nat_cmp q (es ++ fs)) ≡ option_or (cond b (Some e.1) (rising.find nat_cmp q es)) (rising.find nat_cmp q fs)
      go true rest = refl
      go false rest = rest

  none_on : (cs : List (List (Entry (ℕ × X)))) (q : ℕ) → ((d : ℕ) → rising.find nat_cmp q (chain cs d) ≡ None) → rising.find nat_cmp q (joined cs) ≡ None
  none_on [] q none = refl
  none_on (es ∷ rest) q none =
      find_after (each (λ e. e.item) es) (joined rest) q
      ∙ ap (λ o. option_or o (rising.find nat_cmp q (joined rest))) (none 0)
      ∙ none_on rest q (λ d. none (suc d))

  -- a number that stands on no other chain is found as this chain has it
  pub only_on : (cs : List (List (Entry (ℕ × X)))) (q c : ℕ) → ((d : ℕ) → d ≢ c → rising.find nat_cmp q (chain cs d) ≡ None) →
      rising.find nat_cmp q (joined cs) ≡ rising.find nat_cmp q (chain cs c)
  only_on [] q c none = refl
  only_on (es ∷ rest) q zero none =
      find_after (each (λ e. e.item) es) (joined rest) q
      ∙ ap (option_or (rising.find nat_cmp q (each (λ e. e.item) es))) (none_on rest q (λ d. none (suc d) (λ e. absurd (omega (arith, e)))))
      ∙ or_none _
  only_on (es ∷ rest) q (suc c) none =
      find_after (each (λ e. e.item) es) (joined rest) q
      ∙ ap (λ o. option_or o (rising.find nat_cmp q (joined rest))) (none 0 (λ e. absurd (omega (arith, e))))
      ∙ only_on rest q c (λ d apart. none (suc d) (λ e. apart (omega (arith, e))))

  -- chains that each have the same at a number
  same_on : (cs ds : List (List (Entry (ℕ × X)))) (q : ℕ) → ((d : ℕ) → rising.find nat_cmp q (chain cs d) ≡ rising.find nat_cmp q (chain ds d)) →
      rising.find nat_cmp q (joined cs) ≡ rising.find nat_cmp q (joined ds)
  same_on [] ds q same = sym (none_on ds q (λ d. sym (same d)))
  same_on (es ∷ cs) [] q same = none_on (es ∷ cs) q same
  same_on (es ∷ cs) (fs ∷ ds) q same =
      find_after (each (λ e. e.item) es) (joined cs) q
      ∙ ap (λ o. option_or o (rising.find nat_cmp q (joined cs))) (same 0)
      ∙ ap (option_or (rising.find nat_cmp q (each (λ e. e.item) fs))) (same_on cs ds q (λ d. same (suc d)))
      ∙ sym (find_after (each (λ e. e.item) fs) (joined ds) q)

  -- what is found stands on some chain
  pub some_on : (cs : List (List (Entry (ℕ × X)))) (q : ℕ) (x : X) → rising.find nat_cmp q (joined cs) ≡ Some x →
      (d : ℕ) × (rising.find nat_cmp q (chain cs d) ≡ Some x)
  some_on [] q x is = absurd (none-some x is)
  some_on (es ∷ rest) q x is = go (rising.find nat_cmp q (each (λ e. e.item) es)) refl (some_on rest q x)
    where
      go : (o : Option X) → rising.find nat_cmp q (each (λ e. e.item) es) ≡ o
          → (rising.find nat_cmp q (joined rest) ≡ Some x → (d : ℕ) × (rising.find nat_cmp q (chain rest d) ≡ Some x))
          → (d : ℕ) × (rising.find nat_cmp q (chain (es ∷ rest) d) ≡ Some x)
      go None h found =
          let later = found
          (sym (ap (λ p. option_or p (rising.find nat_cmp q (joined rest))) h) ∙ sym (find_after (each (λ e. e.item) es) (joined rest) q) ∙ is) in
          (suc later.0, later.1)
      go (Some y) h found =
          (0, h ∙ sym (ap (λ p. option_or p (rising.find nat_cmp q (joined rest))) h) ∙ sym (find_after (each (λ e. e.item) es) (joined rest) q) ∙ is)

  -- what is found has a value behind another entry, too
  pub found_behind : (e : ℕ × X) (es : List (ℕ × X)) (q : ℕ) (x : X) → rising.find nat_cmp q es ≡ Some x → (b : Bool) → eq_by_cmp nat_cmp q e.0 ≡ b →
      (y : X) × (rising.find nat_cmp q (e ∷ es) ≡ Some y)
  found_behind e es q x is true t = (e.1, ap (λ b. cond b (Some e.1) (rising.find nat_cmp q es)) t)
  found_behind e es q x is false t = (x, ap (λ b. cond b (Some e.1) (rising.find nat_cmp q es)) t ∙ is)

  -- ---- how many values there are

  len_after : (es fs : List (ℕ × X)) → map.is_sorted nat_cmp es ≡ true
      → ((q : ℕ) (x : X) → rising.find nat_cmp q es ≡ Some x → rising.find nat_cmp q fs ≡ None)
      → map.len (map.from_entries {R = nat_cmp} (es ++ fs)) ≡ length es + map.len (map.from_entries {R = nat_cmp} fs)
  len_after [] fs sorted apart = omega arith
  len_after (e ∷ es) fs sorted apart =
      let now = here in
      let rest = len_after es fs (rest_sorted e es sorted) (λ q x is. let s = found_behind e es q x is (eq_by_cmp nat_cmp q e.0) refl in apart q s.0 s.1) in
      omega arith
    where
      fresh : rising.find nat_cmp e.0 (es ++ fs) ≡ None
      fresh =
          find_after es fs e.0 ∙ ap (λ o. option_or o (rising.find nat_cmp e.0 fs)) (none_above es e.0 (head_below e es sorted))
          ∙ apart e.0 e.1 (ap (λ b. cond b (Some e.1) (rising.find nat_cmp e.0 es)) (own_key e.0))

      here : map.len (map.from_entries {R = nat_cmp} (e ∷ (es ++ fs))) ≡ map.len (map.from_entries {R = nat_cmp} (es ++ fs)) + 1
      here =
          map.len-insert nat_cmp_total (map.from_entries {R = nat_cmp} (es ++ fs)) e.0 e.1
          ∙ ap (λ o. cond (is_some o) (map.len (map.from_entries {R = nat_cmp} (es ++ fs))) (map.len (map.from_entries {R = nat_cmp} (es ++ fs)) + 1))
          (map.get-from_entries nat_cmp_total (es ++ fs) e.0 ∙ fresh)

  len_joined : (cs : List (List (Entry (ℕ × X)))) → ((c : ℕ) → map.is_sorted nat_cmp (chain cs c) ≡ true)
      → ((c d q : ℕ) (x y : X) → rising.find nat_cmp q (chain cs c) ≡ Some x → rising.find nat_cmp q (chain cs d) ≡ Some y → c ≡ d)
      → map.len (map.from_entries {R = nat_cmp} (joined cs)) ≡ sum_by length cs
  len_joined [] sorted once = map.len-empty nat_cmp X
  len_joined (es ∷ rest) sorted once =
      len_after (each (λ e. e.item) es) (joined rest) (sorted 0)
      (λ q x is. none_of _ (λ y found. let there = some_on rest q y found in
      let clash : 0 ≡ suc there.0 = once 0 (suc there.0) q x y is there.1 in absurd (omega (arith, clash))))
      ∙ ap (λ n. n + map.len (map.from_entries {R = nat_cmp} (joined rest))) (length-map es (λ (e : Entry (ℕ × X)). e.item))
      ∙ ap (λ n. length es + n) (len_joined rest (λ c. sorted (suc c)) (λ c d q x y p r. let e : suc c ≡ suc d = once (suc c) (suc d) q x y p r in omega (arith, e)))
      ∙ sym (sum_by-cons length es rest)

  -- as many as there are items, if no number stands on two chains
  pub counted : (a : Chains (ℕ × X)) → AreSorted a → ((c d q : ℕ) (x y : X) → at a c q ≡ Some x → at a d q ≡ Some y → c ≡ d) →
      map.len (values_on a) ≡ item_count a
  counted a sorted once = len_joined a.chains sorted once

  -- ---- what a change does

  pub unaltered : (a b : Chains (ℕ × X)) (c k : ℕ) (w : Option X) → IsAltered a b c k w → (d q : ℕ) → d ≢ c → at b d q ≡ at a d q
  unaltered a b c k w new d q apart = ap (λ es. rising.find nat_cmp q (each (λ e. e.item) es)) (new.others d apart)

  altered_find : (a b : Chains (ℕ × X)) (c k : ℕ) (w : Option X) → IsAltered a b c k w → ((d : ℕ) → d ≢ c → at a d k ≡ None) → (q : ℕ) (t : Bool)
      → eq_by_cmp nat_cmp q k ≡ t → rising.find nat_cmp q (joined b.chains) ≡ cond t w (rising.find nat_cmp q (joined a.chains))
  altered_find a b c k w new alone q true is =
      only_on b.chains q c (λ d apart. unaltered a b c k w new d q apart ∙ ap (at a d) (same_key q k is) ∙ alone d apart)
      ∙ new.here q ∙ ap (λ t. cond t w (at a c q)) is
  altered_find a b c k w new alone q false is = same_on b.chains a.chains q (λ d. go d (d == c) refl)
    where
      go : (d : ℕ) (t : Bool) → (d == c) ≡ t → at b d q ≡ at a d q
      go d true same =
          let one : d ≡ c = eqb-true d c same in
          ap (λ n. at b n q) one ∙ new.here q ∙ ap (λ t. cond t w (at a c q)) is ∙ ap (λ n. at a n q) (sym one)
      go d false other = unaltered a b c k w new d q (λ e. grind (arith, nat_tests))

  pub altered_get : (a b : Chains (ℕ × X)) (c k : ℕ) (w : Option X) → IsAltered a b c k w → ((d : ℕ) → d ≢ c → at a d k ≡ None) → (q : ℕ)
      → map.get (values_on b) q ≡ cond (eq_by_cmp nat_cmp q k) w (map.get (values_on a) q)
  altered_get a b c k w new alone q =
      map.get-from_entries nat_cmp_total (joined b.chains) q ∙ altered_find a b c k w new alone q (eq_by_cmp nat_cmp q k) refl
      ∙ ap (cond (eq_by_cmp nat_cmp q k) w) (sym (map.get-from_entries nat_cmp_total (joined a.chains) q))

  pub inserted : (a b : Chains (ℕ × X)) (c k : ℕ) (x : X) → IsAltered a b c k (Some x) → ((d : ℕ) → d ≢ c → at a d k ≡ None) →
      values_on b ≡ map.insert (values_on a) k x
  inserted a b c k x new alone =
      map.same_map nat_cmp_total map.nat_cmp-IsAntisymmetric _ _
      (λ q. altered_get a b c k (Some x) new alone q ∙ sym (map.get-insert nat_cmp_total (values_on a) k x q))

  pub removed : (a b : Chains (ℕ × X)) (c k : ℕ) → IsAltered a b c k None → ((d : ℕ) → d ≢ c → at a d k ≡ None) →
      values_on b ≡ map.remove (values_on a) k
  removed a b c k new alone =
      map.same_map nat_cmp_total map.nat_cmp-IsAntisymmetric _ _
      (λ q. altered_get a b c k None new alone q ∙ sym (map.get-remove nat_cmp_total (values_on a) k q))

  pub get_only : (a : Chains (ℕ × X)) (c q : ℕ) → ((d : ℕ) → d ≢ c → at a d q ≡ None) → map.get (values_on a) q ≡ at a c q
  get_only a c q alone = map.get-from_entries nat_cmp_total (joined a.chains) q ∙ only_on a.chains q c alone

  -- what is so of each entry and of the new one is so after a change
  pub each_altered : (P : ℕ → ℕ → X → Type 0) (a b : Chains (ℕ × X)) (c k : ℕ) (w : Option X) → IsAltered a b c k w → IsEach P a
      → ((x : X) → w ≡ Some x → P c k x) → IsEach P b
  each_altered P a b c k w new held fits d q x is = go (d == c) refl
    where
      at_key : (t : Bool) → eq_by_cmp nat_cmp q k ≡ t → at b c q ≡ Some x → P c q x
      at_key true same found =
          subst (λ n. P c n x) (sym (same_key q k same)) (fits x (sym (new.here q ∙ ap (λ t. cond t w (at a c q)) same) ∙ found))
      at_key false other found = held c q x (sym (new.here q ∙ ap (λ t. cond t w (at a c q)) other) ∙ found)

      go : (t : Bool) → (d == c) ≡ t → P d q x
      go true same =
          let one : d ≡ c = eqb-true d c same in
          subst (λ n. P n q x) (sym one) (at_key (eq_by_cmp nat_cmp q k) refl (ap (λ n. at b n q) (sym one) ∙ is))
      go false other = held d q x (sym (unaltered a b c k w new d q (λ e. grind (arith, nat_tests))) ∙ is)

  -- ---- chains with nothing on them

  nothing_on : (n c : ℕ) → slice_index_or (replicate {A = List (Entry (ℕ × X))} n []) c [] ≡ []
  nothing_on zero c = refl
  nothing_on (suc n) zero = refl
  nothing_on (suc n) (suc c) = nothing_on n c

  nothing_joined : (n : ℕ) → joined (replicate {A = List (Entry (ℕ × X))} n []) ≡ []
  nothing_joined zero = refl
  nothing_joined (suc n) = nothing_joined n

  pub none_at : (a : Chains (ℕ × X)) (n slots : ℕ) → a ≡ record { chains = replicate n []; slots = slots } → (c q : ℕ) → at a c q ≡ None
  none_at a n slots is c q = ap (λ (b : Chains (ℕ × X)). at b c q) is ∙ ap (λ es. rising.find nat_cmp q (each (λ (e : Entry (ℕ × X)). e.item) es)) (nothing_on n c)

  pub none_sorted : (a : Chains (ℕ × X)) (n slots : ℕ) → a ≡ record { chains = replicate n []; slots = slots } → AreSorted a
  none_sorted a n slots is c =
      ap (λ (b : Chains (ℕ × X)). map.is_sorted nat_cmp (items b c)) is
      ∙ ap (λ es. map.is_sorted nat_cmp (each (λ (e : Entry (ℕ × X)). e.item) es)) (nothing_on n c)

  pub no_values : (a : Chains (ℕ × X)) (n slots : ℕ) → a ≡ record { chains = replicate n []; slots = slots } → values_on a ≡ map.empty
  no_values a n slots is = ap (λ (b : Chains (ℕ × X)). values_on b) is ∙ ap (map.from_entries {R = nat_cmp}) (nothing_joined n)

  pub chains_made : (a : Chains (ℕ × X)) (n slots : ℕ) → a ≡ record { chains = replicate n []; slots = slots } → length a.chains ≡ n
  chains_made a n slots is = ap (λ (b : Chains (ℕ × X)). length b.chains) is ∙ length-replicate n []
