-- How many entries of a finite map pass a test, and how many there are.
use Rattle.std.proofs.Common.{◌≡◌, ◌≢◌, ℕ, ◌+◌, ◌-◌, ◌≤◌, Bool, true, false, cond, not, ◌||◌, ◌==◌, Some, None, is_some, List, [], ◌∷◌, length}
use Rattle.std.proofs.Common.{refl, ap, sym, ◌∙◌, arith, count_by}
use Rattle.std.proofs.lemmas.Bool.Decides.{nat_tests}
use Rattle.std.proofs.lemmas.List.Sums.{sum_by-cons}
use Rattle.std.proofs.lemmas.Option.{none-some}
use Rattle.std.specs.declared.cmp.Ordering.{Ordering}
use Rattle.std.specs.declared.cmp.Ordering.TheVariants.{Less, Equal, Greater}
use Rattle.std.specs.List.{list_any}
use Rattle.std.specs.Ordering.{nat_cmp, eq_by_cmp}
use Rattle.std.specs.Cmp.{nat_cmp_total}
use Rattle.std.specs.FinMap as map
use Rattle.std.specs.FinMap.Entries as rising
use Rattle.fl_dir.proofs.Entries.{head_below, rest_sorted, none_above}
use Rattle.fl_dir.proofs.Spread.{own_key, same_key}

-- one if a test is passed
abbrev pub ones : Bool → ℕ
ones b = cond b 1 0

pub count_cons : {A : Type 0} (p : A → Bool) (x : A) (xs : List A) → count_by p (x ∷ xs) ≡ ones (p x) + count_by p xs
count_cons p x xs = sum_by-cons (λ x. cond (p x) 1 0) x xs

pub any_counted : {A : Type 0} (p : A → Bool) (xs : List A) → list_any p xs ≡ not (count_by p xs == 0)
any_counted p [] = refl
any_counted p (x ∷ xs) = go (p x) (any_counted p xs) ∙ ap (λ n. not (n == 0)) (sym (count_cons p x xs))
  where
    go : (b : Bool) → list_any p xs ≡ not (count_by p xs == 0) → (b || list_any p xs) ≡ not (ones b + count_by p xs == 0)
    go true later = sym (more _)
      where
        more : (n : ℕ) → not (1 + n == 0) ≡ true
        more n = grind (arith, nat_tests)
    go false later = later ∙ ap (λ n. not (n == 0)) (alone _)
      where
        alone : (n : ℕ) → n ≡ 0 + n
        alone n = omega arith

module _ {X : Type 0} where
  count_put : (p : (ℕ × X) → Bool) (k : ℕ) (v : X) (es : List (ℕ × X)) → rising.find nat_cmp k es ≡ None →
      count_by p (rising.put nat_cmp k v es) ≡ ones (p (k, v)) + count_by p es
  count_put p k v [] none = count_cons p (k, v) []
  count_put p k v (e ∷ es) none = go (nat_cmp k e.0) refl (count_put p k v es)
    where
      go : (o : Ordering) → nat_cmp k e.0 ≡ o → (rising.find nat_cmp k es ≡ None → count_by p (rising.put nat_cmp k v es) ≡ ones (p (k, v)) + count_by p es) →
          count_by p (rising.by_order o ((k, v) ∷ e ∷ es) ((e.0, v) ∷ es) (e ∷ rising.put nat_cmp k v es)) ≡ ones (p (k, v)) + count_by p (e ∷ es)
      go Less is later = count_cons p (k, v) (e ∷ es)
      go Equal is later =
          let clash : Some e.1 ≡ None = sym (ap (λ o. cond (Rattle.std.specs.Ordering.is_eq o) (Some e.1) (rising.find nat_cmp k es)) is) ∙ none in absurd (cc clash)
      go Greater is later =
          let rest = later (sym (ap (λ o. cond (Rattle.std.specs.Ordering.is_eq o) (Some e.1) (rising.find nat_cmp k es)) is) ∙ none) in
          let a = count_cons p e (rising.put nat_cmp k v es) in
          let b = count_cons p e es in
          omega arith

  -- a new entry is counted once more if it passes
  pub count_insert : (p : (ℕ × X) → Bool) (m : map.FinMap nat_cmp X) (k : ℕ) (v : X) → map.get m k ≡ None →
      count_by p (map.entries (map.insert m k v)) ≡ ones (p (k, v)) + count_by p (map.entries m)
  count_insert p m k v none =
      ap (count_by p) (map.entries-insert nat_cmp_total m k v) ∙ count_put p k v (map.entries m) (sym (map.get-entries m k) ∙ none)

  -- an entry that goes is counted no more
  pub count_remove : (p : (ℕ × X) → Bool) (m : map.FinMap nat_cmp X) (k : ℕ) (v : X) → map.get m k ≡ Some v →
      count_by p (map.entries m) ≡ ones (p (k, v)) + count_by p (map.entries (map.remove m k))
  count_remove p m k v there =
      ap (λ n. count_by p (map.entries n)) (sym back) ∙ count_insert p (map.remove m k) k v gone
    where
      gone : map.get (map.remove m k) k ≡ None
      gone = map.get-remove nat_cmp_total m k k ∙ ap (λ b. cond b None (map.get m k)) (own_key k)

      back : map.insert (map.remove m k) k v ≡ m
      back =
          map.same_map nat_cmp_total map.nat_cmp-IsAntisymmetric _ _
          (λ q. map.get-insert nat_cmp_total (map.remove m k) k v q ∙ ap (cond (eq_by_cmp nat_cmp q k) (Some v)) (map.get-remove nat_cmp_total m k q)
          ∙ again q (eq_by_cmp nat_cmp q k) refl)
        where
          again : (q : ℕ) (b : Bool) → eq_by_cmp nat_cmp q k ≡ b → cond b (Some v) (cond b None (map.get m q)) ≡ map.get m q
          again q true is = sym (ap (map.get m) (same_key q k is) ∙ there)
          again q false is = refl

-- a map has no more entries than another that has all its numbers
pub len_within : {X Y : Type 0} (es : List (ℕ × X)) (m : map.FinMap nat_cmp Y) → map.is_sorted nat_cmp es ≡ true
    → ((q : ℕ) (x : X) → rising.find nat_cmp q es ≡ Some x → (y : Y) × (map.get m q ≡ Some y)) → length es ≤ map.len m
len_within [] m sorted has = omega arith
len_within {X} {Y} (e ∷ es) m sorted has =
    let here = has e.0 e.1 (ap (λ b. cond b (Some e.1) (rising.find nat_cmp e.0 es)) (own_key e.0)) in
    let rest : length es ≤ map.len (map.remove m e.0) = len_within es (map.remove m e.0) (rest_sorted e es sorted) (λ q x is. kept q x is (eq_by_cmp nat_cmp q e.0) refl) in
    let one : map.len (map.remove m e.0) ≡ map.len m - 1 =
    map.len-remove nat_cmp_total m e.0 ∙ ap (λ o. cond (is_some o) (map.len m - 1) (map.len m)) here.1 in
    let some : map.len m ≢ 0 = λ none. none-some here.0 (sym (map.get-empty nat_cmp e.0) ∙ sym (ap (λ n. map.get n e.0) (map.empty_of_len m none)) ∙ here.1) in
    omega arith
  where
    kept : (q : ℕ) (x : X) → rising.find nat_cmp q es ≡ Some x → (b : Bool) → eq_by_cmp nat_cmp q e.0 ≡ b → (y : Y) × (map.get (map.remove m e.0) q ≡ Some y)
    kept q x is true same =
        absurd (none-some x (sym (none_above es e.0 (head_below e es sorted)) ∙ ap (λ n. rising.find nat_cmp n es) (sym (same_key q e.0 same)) ∙ is))
    kept q x is false other =
        let y = has q x (ap (λ b. cond b (Some e.1) (rising.find nat_cmp q es)) other ∙ is) in
        (y.0, map.get-remove nat_cmp_total m e.0 q ∙ ap (λ b. cond b None (map.get m q)) other ∙ y.1)
