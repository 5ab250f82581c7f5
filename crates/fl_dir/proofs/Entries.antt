-- Entries in the order of their numbers, as a list and as a finite map.
use Rattle.std.proofs.Common.{◌≡◌, ℕ, zero, suc, ◌+◌, ◌<◌, ◌≤◌, nat_le, nat_lt, Bool, true, false, cond, not, ◌==◌, T, Some}
use Rattle.std.proofs.Common.{None, option_map, slice_get}
use Rattle.std.proofs.Common.{slice_set, List, [], ◌∷◌, ◌++◌, refl, ap, sym, ◌∙◌, subst, arith}
use Rattle.std.proofs.lemmas.Bool.Decides.{nat_tests}
use Rattle.std.proofs.lemmas.Option.{none-some}
use Rattle.std.specs.List.{find, insert, position_or_len, remove}
use Rattle.std.specs.declared.cmp.Ordering.{Ordering}
use Rattle.std.specs.declared.cmp.Ordering.TheVariants.{Less, Equal, Greater}
use Rattle.std.specs.Ordering.{nat_cmp, eq_by_cmp, is_eq, is_lt}
use Rattle.std.specs.Cmp.{first_so, second_so}
use Rattle.std.specs.FinMap as map
use Rattle.std.specs.FinMap.Entries as rising
use Rattle.std.proofs.lemmas.Bool.{and_from}

pub held : (b : Bool) → b ≡ true → T b
held true e = tt
held false e = absurd (cc e)

pub truth : (b : Bool) → T b → b ≡ true
truth true t = refl
truth false t = absurd t

pub tied : (x y : ℕ) → eq_by_cmp nat_cmp x y ≡ (y == x)
tied x y = grind (arith, nat_tests)

less_than : (a b : ℕ) → a < b → is_lt (nat_cmp a b) ≡ true
less_than a b less = grind (arith, nat_tests)

lesser : (a b : ℕ) → is_lt (nat_cmp a b) ≡ true → a < b
lesser a b is = grind (arith, nat_tests)

same_key : (a b : ℕ) → a ≡ b → nat_cmp a b ≡ Equal
same_key a b e = ap (nat_cmp a) (sym e) ∙ itself a
  where
    itself : (k : ℕ) → nat_cmp k k ≡ Equal
    itself k = grind (arith, nat_tests)

later_key : (a b : ℕ) → b < a → nat_cmp a b ≡ Greater
later_key a b h = grind (arith, nat_tests)

earlier_key : (a b : ℕ) → nat_lt a b ≡ true → nat_cmp a b ≡ Less
earlier_key a b h = grind (arith, nat_tests)

past_key : (a b : ℕ) → nat_lt a b ≡ false → eq_by_cmp nat_cmp a b ≡ false → nat_cmp a b ≡ Greater
past_key a b h e = grind (arith, nat_tests)

first_passes : {A : Type 0} (p : A → Bool) (x : A) (xs : List A) → p x ≡ true → position_or_len p (x ∷ xs) ≡ 0
first_passes p x xs passes = ap (λ b. cond (not b) (1 + position_or_len p xs) 0) passes

first_fails : {A : Type 0} (p : A → Bool) (x : A) (xs : List A) → p x ≡ false → position_or_len p (x ∷ xs) ≡ suc (position_or_len p xs)
first_fails p x xs fails = ap (λ b. cond (not b) (1 + position_or_len p xs) 0) fails ∙ next (position_or_len p xs)
  where
    next : (k : ℕ) → 1 + k ≡ suc k
    next k = omega arith

module _ {X : Type 0} where
  -- the numbers of the rest of a list are above that of its first entry
  pub head_below : (e : ℕ × X) (es : List (ℕ × X)) → map.is_sorted nat_cmp (e ∷ es) ≡ true → rising.below_all nat_cmp e.0 es ≡ true
  head_below e es sorted = first_so (rising.below_all nat_cmp e.0 es) (map.is_sorted nat_cmp es) sorted

  pub rest_sorted : (e : ℕ × X) (es : List (ℕ × X)) → map.is_sorted nat_cmp (e ∷ es) ≡ true → map.is_sorted nat_cmp es ≡ true
  rest_sorted e es sorted = second_so (rising.below_all nat_cmp e.0 es) (map.is_sorted nat_cmp es) sorted

  -- what the entries have at a number, as a search finds it
  pub found : (es : List (ℕ × X)) (q : ℕ) → map.find nat_cmp q es ≡ option_map (λ e. e.1) (find (λ (e : ℕ × X). e.0 == q) es)
  found [] q = refl
  found (e ∷ es) q = go (e.0 == q) (tied q e.0) (found es q)
    where
      go : (b : Bool) → eq_by_cmp nat_cmp q e.0 ≡ b → map.find nat_cmp q es ≡ option_map (λ e. e.1) (find (λ (e : ℕ × X). e.0 == q) es)
          → cond (eq_by_cmp nat_cmp q e.0) (Some e.1) (map.find nat_cmp q es) ≡ option_map (λ e. e.1) (cond b (Some e) (find (λ (e : ℕ × X). e.0 == q) es))
      go true is rest = ap (λ b. cond b (Some e.1) (map.find nat_cmp q es)) is
      go false is rest = ap (λ b. cond b (Some e.1) (map.find nat_cmp q es)) is ∙ rest

  -- no number that stands below all is found
  pub none_above : (es : List (ℕ × X)) (k : ℕ) → rising.below_all nat_cmp k es ≡ true → map.find nat_cmp k es ≡ None
  none_above [] k above = refl
  none_above (e ∷ es) k above =
      ap (λ b. cond b (Some e.1) (map.find nat_cmp k es)) apart
      ∙ none_above es k (second_so (is_lt (nat_cmp k e.0)) (rising.below_all nat_cmp k es) above)
    where
      apart : eq_by_cmp nat_cmp k e.0 ≡ false
      apart = let less = lesser k e.0 (first_so (is_lt (nat_cmp k e.0)) (rising.below_all nat_cmp k es) above) in grind (arith, nat_tests)

  -- ---- one more at the end

  above_pushed : (es : List (ℕ × X)) (k next : ℕ) (x : X) → k < next → rising.below_all nat_cmp k es ≡ true →
      rising.below_all nat_cmp k (es ++ (next, x) ∷ []) ≡ true
  above_pushed [] k next x less above = and_from _ true (less_than k next less) refl
  above_pushed (e ∷ es) k next x less above =
      and_from _ _ (first_so (is_lt (nat_cmp k e.0)) (rising.below_all nat_cmp k es) above)
      (above_pushed es k next x less (second_so (is_lt (nat_cmp k e.0)) (rising.below_all nat_cmp k es) above))

  -- a list in which no number is as large may get this one at its end
  pub sorted_pushed : (es : List (ℕ × X)) (next : ℕ) (x : X) → ((q : ℕ) → next ≤ q → map.find nat_cmp q es ≡ None)
      → map.is_sorted nat_cmp es ≡ true → map.is_sorted nat_cmp (es ++ (next, x) ∷ []) ≡ true
  sorted_pushed [] next x none sorted = refl
  sorted_pushed (e ∷ es) next x none sorted =
      and_from _ _ (above_pushed es e.0 next x less (head_below e es sorted)) (sorted_pushed es next x others (rest_sorted e es sorted))
    where
      own : eq_by_cmp nat_cmp e.0 e.0 ≡ true
      own = grind (arith, nat_tests)

      less : e.0 < next
      less = below (nat_le next e.0) refl
        where
          below : (t : Bool) → nat_le next e.0 ≡ t → e.0 < next
          below true is =
              let there : Some e.1 ≡ None = sym (ap (λ b. cond b (Some e.1) (map.find nat_cmp e.0 es)) own) ∙ none e.0 (grind (arith, nat_tests)) in
              absurd (cc there)
          below false is = grind (arith, nat_tests)

      others : (q : ℕ) → next ≤ q → map.find nat_cmp q es ≡ None
      others q most = rest (eq_by_cmp nat_cmp q e.0) refl (none q most)
        where
          rest : (t : Bool) → eq_by_cmp nat_cmp q e.0 ≡ t → cond (eq_by_cmp nat_cmp q e.0) (Some e.1) (map.find nat_cmp q es) ≡ None → map.find nat_cmp q es ≡ None
          rest true is h =
              let there : Some e.1 ≡ None = sym (ap (λ b. cond b (Some e.1) (map.find nat_cmp q es)) is) ∙ h in absurd (cc there)
          rest false is h = sym (ap (λ b. cond b (Some e.1) (map.find nat_cmp q es)) is) ∙ h

  -- ---- one more in its place

  -- the place of the first greater number is that of the number, if it isn't there
  pub insert_put : (es : List (ℕ × X)) (n : ℕ) (x : X) → map.find nat_cmp n es ≡ None →
      insert es (position_or_len (λ (e : ℕ × X). nat_lt n e.0) es) (n, x) ≡ rising.put nat_cmp n x es
  insert_put [] n x none = refl
  insert_put (e ∷ es) n x none = go (nat_lt n e.0) refl (eq_by_cmp nat_cmp n e.0) refl none (insert_put es n x)
    where
      p : (ℕ × X) → Bool
      p f = nat_lt n f.0

      go : (b : Bool) → nat_lt n e.0 ≡ b → (t : Bool) → eq_by_cmp nat_cmp n e.0 ≡ t → cond t (Some e.1) (map.find nat_cmp n es) ≡ None
          → (map.find nat_cmp n es ≡ None → insert es (position_or_len p es) (n, x) ≡ rising.put nat_cmp n x es)
          → insert (e ∷ es) (position_or_len p (e ∷ es)) (n, x) ≡ rising.by_order (nat_cmp n e.0) ((n, x) ∷ e ∷ es) ((e.0, x) ∷ es) (e ∷ rising.put nat_cmp n x es)
      go b less true same gone later = absurd (none-some e.1 (sym gone))
      go true less false same gone later =
          ap (λ i. insert (e ∷ es) i (n, x)) (first_passes p e es less)
          ∙ sym (ap (λ (o : Ordering). rising.by_order o ((n, x) ∷ e ∷ es) ((e.0, x) ∷ es) (e ∷ rising.put nat_cmp n x es)) (earlier_key n e.0 less))
      go false less false same gone later =
          ap (λ i. insert (e ∷ es) i (n, x)) (first_fails p e es less)
          ∙ ap (λ (l : List (ℕ × X)). e ∷ l) (later gone)
          ∙ sym (ap (λ (o : Ordering). rising.by_order o ((n, x) ∷ e ∷ es) ((e.0, x) ∷ es) (e ∷ rising.put nat_cmp n x es)) (past_key n e.0 less same))

  -- ---- another value under a number

  at_above : (k n : ℕ) (y : X) (es : List (ℕ × X)) (i : ℕ) → rising.below_all nat_cmp k es ≡ true → slice_get es i ≡ Some (n, y) → k < n
  at_above k n y [] i above at = absurd (none-some _ at)
  at_above k n y (e ∷ es) zero above at =
      let key : e.0 ≡ n = cc in
      lesser k n (ap (λ q. is_lt (nat_cmp k q)) (sym key) ∙ first_so (is_lt (nat_cmp k e.0)) (rising.below_all nat_cmp k es) above)
  at_above k n y (e ∷ es) (suc i) above at = at_above k n y es i (second_so (is_lt (nat_cmp k e.0)) (rising.below_all nat_cmp k es) above) at

  pub set_put : (es : List (ℕ × X)) (i n : ℕ) (x y : X) → map.is_sorted nat_cmp es ≡ true → slice_get es i ≡ Some (n, y) →
      slice_set es i (n, x) ≡ rising.put nat_cmp n x es
  set_put [] i n x y sorted at = absurd (none-some _ at)
  set_put (e ∷ es) zero n x y sorted at =
      let key : n ≡ e.0 = cc in
      ap (λ (k : ℕ). (k, x) ∷ es) key
      ∙ sym (ap (λ (o : Ordering). rising.by_order o ((n, x) ∷ e ∷ es) ((e.0, x) ∷ es) (e ∷ rising.put nat_cmp n x es)) (same_key n e.0 key))
  set_put (e ∷ es) (suc i) n x y sorted at =
      let less = at_above e.0 n y es i (head_below e es sorted) at in
      ap (λ (l : List (ℕ × X)). e ∷ l) (set_put es i n x y (rest_sorted e es sorted) at)
      ∙ sym (ap (λ (o : Ordering). rising.by_order o ((n, x) ∷ e ∷ es) ((e.0, x) ∷ es) (e ∷ rising.put nat_cmp n x es)) (later_key n e.0 less))

  -- ---- without a number

  all_others : (n : ℕ) (es : List (ℕ × X)) → rising.below_all nat_cmp n es ≡ true → es ≡ rising.where_key nat_cmp (λ k. not (eq_by_cmp nat_cmp n k)) es
  all_others n [] above = refl
  all_others n (e ∷ es) above =
      let less = lesser n e.0 (first_so (is_lt (nat_cmp n e.0)) (rising.below_all nat_cmp n es) above) in
      let keeps : true ≡ not (eq_by_cmp nat_cmp n e.0) = grind (arith, nat_tests) in
      let rest = all_others n es (second_so (is_lt (nat_cmp n e.0)) (rising.below_all nat_cmp n es) above) in
      ap (λ (l : List (ℕ × X)). e ∷ l) rest
      ∙ ap (λ b. cond b (e ∷ rising.where_key nat_cmp (λ k. not (eq_by_cmp nat_cmp n k)) es) (rising.where_key nat_cmp (λ k. not (eq_by_cmp nat_cmp n k)) es))
      keeps

  pub remove_where : (es : List (ℕ × X)) (i n : ℕ) (y : X) → map.is_sorted nat_cmp es ≡ true → slice_get es i ≡ Some (n, y) →
      remove es i ≡ rising.where_key nat_cmp (λ k. not (eq_by_cmp nat_cmp n k)) es
  remove_where [] i n y sorted at = absurd (none-some _ at)
  remove_where (e ∷ es) zero n y sorted at =
      let key : e.0 ≡ n = cc in
      let goes : false ≡ not (eq_by_cmp nat_cmp n e.0) = grind (arith, nat_tests) in
      all_others n es (ap (λ k. rising.below_all nat_cmp k es) (sym key) ∙ head_below e es sorted)
      ∙ ap (λ b. cond b (e ∷ rising.where_key nat_cmp (λ k. not (eq_by_cmp nat_cmp n k)) es) (rising.where_key nat_cmp (λ k. not (eq_by_cmp nat_cmp n k)) es))
      goes
  remove_where (e ∷ es) (suc i) n y sorted at =
      let less = at_above e.0 n y es i (head_below e es sorted) at in
      let keeps : true ≡ not (eq_by_cmp nat_cmp n e.0) = grind (arith, nat_tests) in
      ap (λ (l : List (ℕ × X)). e ∷ l) (remove_where es i n y (rest_sorted e es sorted) at)
      ∙ ap (λ b. cond b (e ∷ rising.where_key nat_cmp (λ k. not (eq_by_cmp nat_cmp n k)) es) (rising.where_key nat_cmp (λ k. not (eq_by_cmp nat_cmp n k)) es))
      keeps

  -- an entry that a search finds stands above no smaller number
  pub above_found : (k : ℕ) (t : (ℕ × X) → Bool) (es : List (ℕ × X)) (e : ℕ × X) → rising.below_all nat_cmp k es ≡ true → find t es ≡ Some e → k < e.0
  above_found k t [] e above is = absurd (none-some e is)
  above_found k t (f ∷ es) e above is = go (t f) (above_found k t es e (second_so (is_lt (nat_cmp k f.0)) (rising.below_all nat_cmp k es) above)) is
    where
      go : (b : Bool) → (find t es ≡ Some e → k < e.0) → cond b (Some f) (find t es) ≡ Some e → k < e.0
      go true later h =
          let same : f ≡ e = cc h in
          subst (λ (x : ℕ × X). k < x.0) same (lesser k f.0 (first_so (is_lt (nat_cmp k f.0)) (rising.below_all nat_cmp k es) above))
      go false later h = later h

  -- what a search for some test finds, the entries have at its number
  pub found_at : (t : (ℕ × X) → Bool) (es : List (ℕ × X)) (e : ℕ × X) → map.is_sorted nat_cmp es ≡ true → find t es ≡ Some e → map.find nat_cmp e.0 es ≡ Some e.1
  found_at t [] e sorted is = absurd (none-some e is)
  found_at t (f ∷ es) e sorted is = go (t f) (found_at t es e (rest_sorted f es sorted)) is
    where
      go : (b : Bool) → (find t es ≡ Some e → map.find nat_cmp e.0 es ≡ Some e.1) → cond b (Some f) (find t es) ≡ Some e →
          map.find nat_cmp e.0 (f ∷ es) ≡ Some e.1
      go true later h =
          let same : f ≡ e = cc h in
          ap (λ (o : Ordering). cond (is_eq o) (Some f.1) (map.find nat_cmp e.0 es)) (same_key e.0 f.0 (ap (λ (x : ℕ × X). x.0) (sym same)))
          ∙ ap (λ (x : ℕ × X). Some x.1) same
      go false later h =
          let less = above_found f.0 t es e (head_below f es sorted) h in
          ap (λ (o : Ordering). cond (is_eq o) (Some f.1) (map.find nat_cmp e.0 es)) (later_key e.0 f.0 less) ∙ later h
