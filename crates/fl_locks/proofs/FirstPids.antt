-- Owners with pids, in the order of owners: the first pid of each.
use Rattle.std.proofs.Common.{◌≡◌, ℕ, Bool, true, false, cond, not, ◌&&◌, ◌||◌, ◌==◌, T, Option, Some, None, List, []}
use Rattle.std.proofs.Common.{◌∷◌, map, is_some, refl, ap, sym, ◌∙◌, subst, arith}
use Rattle.std.proofs.lemmas.Bool.{and_from}
use Rattle.std.proofs.lemmas.Bool.Decides.{nat_tests}
use Rattle.std.proofs.lemmas.Cmp.{on_total}
use Rattle.std.proofs.lemmas.List.Kept.{IsStrictlySortedBy-dedup}
use Rattle.std.proofs.lemmas.Map.Lookups.{exact_unsigned}
use Rattle.std.specs.Cmp.{nat_cmp_total}
use Rattle.std.specs.FinMap.{find, entries, entries_sorted, get-entries, from_entries, get-from_entries, is_sorted}
use Rattle.std.specs.FinMap.Entries.{below_all, same_entries}
use Rattle.std.specs.List.{filter, list_any, dedup, dedup_from, AllByRecursion}
use Rattle.std.specs.List.Sorted.{IsStrictlySortedBy, IsSortedByKey, IsStableByKey}
use Rattle.std.specs.declared.cmp.Ordering.TheVariants.{Less}
use Rattle.std.specs.Ordering.{nat_cmp, eq_by_cmp, is_lt}
use Rattle.fl_locks.specs.declared.row.Blocker.{Blocker}
use Rattle.fl_locks.specs.LockRows.{first_pids}

pub truth : (b : Bool) → T b → b ≡ true
truth true t = refl
truth false t = absurd t

pub same_number : (k j : ℕ) → eq_by_cmp nat_cmp k j ≡ (k == j)
same_number k j = grind (arith, nat_tests)

-- an owner with its pid, and back
abbrev pub pair : Blocker → (ℕ × ℕ)
pair b = (b.owner, b.pid)

abbrev pub unpaired : (ℕ × ℕ) → Blocker
unpaired e = record { owner = e.0; pid = e.1 }

pub unpaired-pair : (bs : List Blocker) → map unpaired (map pair bs) ≡ bs
unpaired-pair [] = refl
unpaired-pair (b ∷ bs) = ap (λ (l : List Blocker). b ∷ l) (unpaired-pair bs)

pub pair-unpaired : (es : List (ℕ × ℕ)) → map pair (map unpaired es) ≡ es
pair-unpaired [] = refl
pair-unpaired (e ∷ es) = ap (λ (l : List (ℕ × ℕ)). e ∷ l) (pair-unpaired es)

-- ---- the first pid of an owner

abbrev pid_of : ℕ → List Blocker → Option ℕ
pid_of owner bs = find nat_cmp owner (map pair bs)

-- the pid of the first of a list
abbrev first_of : List Blocker → Option ℕ
first_of [] = None
first_of (b ∷ bs) = Some b.pid

tie : (k j : ℕ) → (not (is_lt (nat_cmp k j)) && not (is_lt (nat_cmp j k))) ≡ eq_by_cmp nat_cmp k j
tie k j = grind (arith, nat_tests)

pid-filter : (owner : ℕ) (bs : List Blocker) →
    first_of (filter (λ (b : Blocker). not (is_lt (nat_cmp owner b.owner)) && not (is_lt (nat_cmp b.owner owner))) bs) ≡ pid_of owner bs
pid-filter owner [] = refl
pid-filter owner (b ∷ bs) =
    ap (λ (t : Bool). first_of (cond t (b ∷ rest) rest)) (tie owner b.owner) ∙ go (eq_by_cmp nat_cmp owner b.owner) (pid-filter owner bs)
  where
    rest : List Blocker
    rest = filter (λ (c : Blocker). not (is_lt (nat_cmp owner c.owner)) && not (is_lt (nat_cmp c.owner owner))) bs

    go : (t : Bool) → first_of (filter (λ (c : Blocker). not (is_lt (nat_cmp owner c.owner)) && not (is_lt (nat_cmp c.owner owner))) bs) ≡ pid_of owner bs →
        first_of (cond t (b ∷ filter (λ (c : Blocker). not (is_lt (nat_cmp owner c.owner)) && not (is_lt (nat_cmp c.owner owner))) bs)
        (filter (λ (c : Blocker). not (is_lt (nat_cmp owner c.owner)) && not (is_lt (nat_cmp c.owner owner))) bs)) ≡ cond t (Some b.pid) (pid_of owner bs)
    go true h = refl
    go false h = h

-- a stable sort keeps it
pid_kept : (xs ys : List Blocker) → IsStableByKey (λ (b : Blocker). b.owner) nat_cmp xs ys → (owner : ℕ) → pid_of owner ys ≡ pid_of owner xs
pid_kept xs ys stable owner = sym (pid-filter owner ys) ∙ ap first_of (stable (record { owner = owner; pid = 0 })) ∙ pid-filter owner xs

-- two are of one owner
abbrev pub of_one_owner : Blocker → Blocker → Bool
of_one_owner a b = a.owner == b.owner

pid-dedup_from : (owner : ℕ) (xs : List Blocker) (k : Blocker) → pid_of owner (dedup_from of_one_owner k xs) ≡ pid_of owner (k ∷ xs)
pid-dedup_from owner [] k = refl
pid-dedup_from owner (x ∷ xs) k = go (x.owner == k.owner) refl (pid-dedup_from owner xs k) (pid-dedup_from owner xs x)
  where
    as_well : x.owner == k.owner ≡ true → eq_by_cmp nat_cmp owner k.owner ≡ false → eq_by_cmp nat_cmp owner x.owner ≡ false
    as_well same other = grind (arith, nat_tests)

    skip : (t : Bool) → eq_by_cmp nat_cmp owner k.owner ≡ t → (x.owner == k.owner) ≡ true →
        cond t (Some k.pid) (pid_of owner xs) ≡ cond t (Some k.pid) (cond (eq_by_cmp nat_cmp owner x.owner) (Some x.pid) (pid_of owner xs))
    skip true is same = refl
    skip false is same = sym (ap (λ (b : Bool). cond b (Some x.pid) (pid_of owner xs)) (as_well same is))

    go : (t : Bool) → (x.owner == k.owner) ≡ t → pid_of owner (dedup_from of_one_owner k xs) ≡ pid_of owner (k ∷ xs) →
        pid_of owner (dedup_from of_one_owner x xs) ≡ pid_of owner (x ∷ xs) →
        pid_of owner (cond t (dedup_from of_one_owner k xs) (k ∷ dedup_from of_one_owner x xs)) ≡ pid_of owner (k ∷ x ∷ xs)
    go true is with_k with_x = with_k ∙ skip (eq_by_cmp nat_cmp owner k.owner) refl is
    go false is with_k with_x = ap (λ (o : Option ℕ). cond (eq_by_cmp nat_cmp owner k.owner) (Some k.pid) o) with_x

pid-dedup : (owner : ℕ) (xs : List Blocker) → pid_of owner (dedup of_one_owner xs) ≡ pid_of owner xs
pid-dedup owner [] = refl
pid-dedup owner (x ∷ xs) = pid-dedup_from owner xs x

-- ---- owners that rise

below : (k : Blocker) (bs : List Blocker) → AllByRecursion (λ (b : Blocker). nat_cmp k.owner b.owner ≡ Less) bs →
    below_all nat_cmp k.owner (map pair bs) ≡ true
below k [] each = refl
below k (b ∷ bs) each = and_from _ _ (ap is_lt each.0) (below k bs each.1)

rises : (bs : List Blocker) → IsStrictlySortedBy (λ (a b : Blocker). nat_cmp a.owner b.owner) bs → is_sorted nat_cmp (map pair bs) ≡ true
unfolding IsStrictlySortedBy
rises [] up = refl
rises (b ∷ bs) up = and_from _ _ (below b bs up.0) (rises bs up.1)

turned : (a b : ℕ) → (a == b) ≡ eq_by_cmp nat_cmp a b
turned a b = grind (arith, nat_tests)

-- what a stable sort by owner leaves once later ones of an owner go
pub firsts : (xs ys : List Blocker) → IsSortedByKey (λ (b : Blocker). b.owner) nat_cmp ys → IsStableByKey (λ (b : Blocker). b.owner) nat_cmp xs ys →
    dedup of_one_owner ys ≡ first_pids xs
firsts xs ys up stable =
    let zs = dedup of_one_owner ys in
    let m = from_entries {R = nat_cmp} (map pair xs) in
    let rising = IsStrictlySortedBy-dedup (on_total (λ (b : Blocker). b.owner) nat_cmp_total) {E = of_one_owner} (λ a b. turned a.owner b.owner) ys up in
    sym (unpaired-pair zs)
    ∙ ap (map unpaired)
    (same_entries nat_cmp nat_cmp_total exact_unsigned (map pair zs) (entries m) (subst T (sym (rises zs rising)) tt) (entries_sorted m)
    (λ owner.
    pid-dedup owner ys ∙ pid_kept xs ys stable owner
    ∙ sym (get-from_entries nat_cmp_total (map pair xs) owner) ∙ get-entries m owner))

-- ---- who is among them

any-pid_of : (owner : ℕ) (bs : List Blocker) → list_any (λ (b : Blocker). b.owner == owner) bs ≡ is_some (pid_of owner bs)
any-pid_of owner [] = refl
any-pid_of owner (b ∷ bs) =
    (λ i. flipped b.owner i || any-pid_of owner bs i)
    ∙ go (eq_by_cmp nat_cmp owner b.owner)
  where
    flipped : (k : ℕ) → (k == owner) ≡ eq_by_cmp nat_cmp owner k
    flipped k = grind (arith, nat_tests)

    go : (t : Bool) → (t || is_some (pid_of owner bs)) ≡ is_some (cond t (Some b.pid) (pid_of owner bs))
    go true = refl
    go false = refl

-- the same owners
pub any-first_pids : (owner : ℕ) (bs : List Blocker) →
    list_any (λ (b : Blocker). b.owner == owner) (first_pids bs) ≡ list_any (λ (b : Blocker). b.owner == owner) bs
any-first_pids owner bs =
    let m = from_entries {R = nat_cmp} (map pair bs) in
    any-pid_of owner (first_pids bs)
    ∙ ap (λ (es : List (ℕ × ℕ)). is_some (find nat_cmp owner es)) (pair-unpaired (entries m))
    ∙ ap is_some (sym (get-entries m owner) ∙ get-from_entries nat_cmp_total (map pair bs) owner)
    ∙ sym (any-pid_of owner bs)
