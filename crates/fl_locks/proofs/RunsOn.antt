-- The runs of a node, of runs in the order of their nodes.
use Rattle.std.proofs.Common.{◌≡◌, ℕ, zero, suc, ◌+◌, ◌<◌, ◌≤◌, Bool, true, false, not, ◌&&◌, ◌==◌, nat_lt, nat_le, List, []}
use Rattle.std.proofs.Common.{◌∷◌, ◌++◌, map, length, get_or, take, drop, refl, ap, sym, ◌∙◌, subst, arith}
use Rattle.std.proofs.lemmas.Bool.{false_from_ne_true}
use Rattle.std.proofs.lemmas.Bool.Decides.{nat_tests}
use Rattle.std.proofs.lemmas.List.{append-nil, take-append-drop, length-take, length-drop, get_or-take, get_or-drop}
use Rattle.std.proofs.lemmas.List.Elements.{filter-append, recursion_from_All, All-from_recursion}
use Rattle.std.specs.Cmp.{first_so, second_so}
use Rattle.std.specs.FinMap.{entries, entries_sorted, from_entries, is_sorted}
use Rattle.std.specs.FinMap.Entries.{below_all}
use Rattle.std.specs.List.{filter, AllByRecursion}
use Rattle.std.specs.List.Sorted.{IsNonDecreasingBy, IsPartitionPoint}
use Rattle.std.specs.declared.cmp.Ordering.{Ordering}
use Rattle.std.specs.declared.cmp.Ordering.TheVariants.{Less, Equal, Greater}
use Rattle.std.specs.Ordering.{nat_cmp, ordering_then, is_lt}
use Rattle.fl_marks.specs.declared.lock.Mark.{Mark}
use Rattle.fl_marks.specs.declared.run.Run.{Run}
use Rattle.fl_marks.specs.Marking.{class_number, Spot, Marking}
use Rattle.fl_marks.specs.Runs.{is_start}
use Rattle.fl_marks.specs.Conflict.{are_of_two_owners, kinds_conflict}
use Rattle.fl_marks.specs.HeldRuns.{listing_cmp, starts_in_order, run_from, runs_in_order}
use Rattle.fl_waiting.specs.Waiting.{Wish, older_blocks}
use Rattle.fl_locks.specs.LockRows.{lock_on}
use Rattle.fl_locks.specs.Inside.{IsPart}
use Rattle.fl_locks.proofs.Each.{all_weaker, filter_none}
use Rattle.fl_locks.proofs.FirstPids.{truth}

-- ---- what a search by halves leaves out

less_differs : (a k : ℕ) → nat_lt a k ≡ true → (a == k) ≡ true → ⊥
less_differs a k less same = grind (arith, nat_tests)

more_differs : (a k : ℕ) → nat_le a k ≡ false → (a == k) ≡ true → ⊥
more_differs a k more same = grind (arith, nat_tests)

module _ {X : Type 0} where
  module _ (P Q : X → Type 0) (xs : List X) (i : ℕ) (within : i ≤ length xs) (at : IsPartitionPoint P Q xs i) where
    each_before : AllByRecursion P (take i xs)
    each_before = recursion_from_All P (take i xs) (λ k d less.
        let long = length-take i xs in
        subst P (sym (get_or-take i xs k d (omega arith))) (at.0 k d (omega arith) (omega arith)))

    each_after : AllByRecursion Q (drop i xs)
    each_after = recursion_from_All Q (drop i xs) (λ k d less.
        let long = length-drop i xs in
        subst Q (sym (get_or-drop i xs k d)) (at.1 (i + k) d (omega arith) (omega arith)))

  without_first : (p : X → Bool) (i : ℕ) (xs : List X) → AllByRecursion (λ x. p x ≡ false) (take i xs) → filter p (drop i xs) ≡ filter p xs
  without_first p i xs none =
      ap (λ (l : List X). l ++ filter p (drop i xs)) (sym (filter_none p (take i xs) none))
      ∙ sym (filter-append p (take i xs) (drop i xs))
      ∙ ap (filter p) (take-append-drop i xs)

  without_last : (p : X → Bool) (i : ℕ) (xs : List X) → AllByRecursion (λ x. p x ≡ false) (drop i xs) → filter p (take i xs) ≡ filter p xs
  without_last p i xs none =
      sym (append-nil (filter p (take i xs)))
      ∙ ap (λ (l : List X). filter p (take i xs) ++ l) (sym (filter_none p (drop i xs) none))
      ∙ sym (filter-append p (take i xs) (drop i xs))
      ∙ ap (filter p) (take-append-drop i xs)

  -- the part between the first that isn't less and the first that is more
  pub part_of : (n : X → ℕ) (k : ℕ) (xs rest : List X) (i j : ℕ) → rest ≡ drop i xs → i ≤ length xs → j ≤ length rest →
      IsPartitionPoint (λ x. nat_lt (n x) k ≡ true) (λ x. nat_lt (n x) k ≡ false) xs i →
      IsPartitionPoint (λ x. nat_le (n x) k ≡ true) (λ x. nat_le (n x) k ≡ false) rest j → IsPart (λ x. n x == k) xs (take j rest)
  part_of n k xs rest i j is within inside start end p only =
      without_last p j rest
      (all_weaker (λ x. nat_le (n x) k ≡ false) (λ x. p x ≡ false) (λ x h. false_from_ne_true (p x) (λ so. more_differs (n x) k h (only x so))) (drop j rest)
      (each_after (λ x. nat_le (n x) k ≡ true) (λ x. nat_le (n x) k ≡ false) rest j inside end))
      ∙ ap (filter p) is
      ∙ without_first p i xs
      (all_weaker (λ x. nat_lt (n x) k ≡ true) (λ x. p x ≡ false) (λ x h. false_from_ne_true (p x) (λ so. less_differs (n x) k h (only x so))) (take i xs)
      (each_before (λ x. nat_lt (n x) k ≡ true) (λ x. nat_lt (n x) k ≡ false) xs i within start))

-- ---- runs in order are in the order of their nodes

no_greater : (a b : ℕ) (rest : Ordering) → is_lt (ordering_then (nat_cmp a b) rest) ≡ true → a ≤ b
no_greater a b rest e = go (nat_cmp a b) refl e
  where
    at_less : nat_cmp a b ≡ Less → a ≤ b
    at_less is = grind (arith, nat_tests)

    at_equal : nat_cmp a b ≡ Equal → a ≤ b
    at_equal is = grind (arith, nat_tests)

    go : (o : Ordering) → nat_cmp a b ≡ o → is_lt (ordering_then o rest) ≡ true → a ≤ b
    go Less is h = at_less is
    go Equal is h = at_equal is
    go Greater is h = absurd (cc h)

abbrev Up : List Run → Type 0
Up [] = Unit {0}
Up (r ∷ rs) = AllByRecursion (λ s. r.key.node ≤ s.key.node) rs × Up rs

module _ (m : Marking) where
  above_all : (q : Spot) (es : List (Spot × Mark)) → below_all listing_cmp q es ≡ true → AllByRecursion (λ s. q.0.node ≤ s.key.node) (map (run_from m) es)
  above_all q [] below = tt
  above_all q (e ∷ es) below = (
    no_greater q.0.node e.0.0.node
        (ordering_then (nat_cmp (class_number q.0.class) (class_number e.0.0.class)) (ordering_then (nat_cmp q.1 e.0.1) (nat_cmp q.0.owner e.0.0.owner)))
        (first_so (is_lt (listing_cmp q e.0)) (below_all listing_cmp q es) below),
    above_all q es (second_so (is_lt (listing_cmp q e.0)) (below_all listing_cmp q es) below),
  )

  up : (es : List (Spot × Mark)) → is_sorted listing_cmp es ≡ true → Up (map (run_from m) es)
  up [] sorted = tt
  up (e ∷ es) sorted =
      (above_all e.0 es (first_so (below_all listing_cmp e.0 es) (is_sorted listing_cmp es) sorted), up es (second_so (below_all listing_cmp e.0 es) (is_sorted listing_cmp es) sorted))

-- each is at most any later one
rises : (rs : List Run) → Up rs → IsNonDecreasingBy (λ (r : Run). r.key.node) rs
rises rs up i j d le within = go rs up i j le within
  where
    go : (rs : List Run) → Up rs → (i j : ℕ) → i ≤ j → j < length rs → (get_or rs i d).key.node ≤ (get_or rs j d).key.node
    go [] up i j le within = absurd (omega arith)
    go (r ∷ rs) up zero zero le within = omega arith
    go (r ∷ rs) up zero (suc j) le within = All-from_recursion (λ (s : Run). r.key.node ≤ s.key.node) rs up.0 j d (omega arith)
    go (r ∷ rs) up (suc i) zero le within = absurd (omega arith)
    go (r ∷ rs) up (suc i) (suc j) le within = go rs up.1 i j (omega arith) (omega arith)

pub runs_by_node : (m : Marking) → IsNonDecreasingBy (λ (r : Run). r.key.node) (runs_in_order m)
runs_by_node m = rises (runs_in_order m) (up m (starts_in_order m) (truth _ (entries_sorted (from_entries {R = listing_cmp} (filter (is_start m) (entries m))))))

-- a run in the way of a lock is of its node
pub of_its_node : (w : Wish) (r : Run) → older_blocks w (lock_on r) ≡ true → (r.key.node == w.key.node) ≡ true
of_its_node w r is =
    let kin = first_so (are_of_two_owners w.key r.key) ((nat_le r.start w.end && nat_le w.start r.end) && kinds_conflict w.kind r.mark.kind) is in
    let others = second_so (class_number w.key.class == class_number r.key.class) ((w.key.node == r.key.node) && not (w.key.owner == r.key.owner)) kin in
    turned w.key.node r.key.node (first_so (w.key.node == r.key.node) (not (w.key.owner == r.key.owner)) others)
  where
    turned : (a b : ℕ) → (a == b) ≡ true → (b == a) ≡ true
    turned a b same = grind (arith, nat_tests)
