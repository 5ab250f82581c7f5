-- The least number of a linked node, on chains and in a map, and what is listed from it on.
use Rattle.std.proofs.Common.{◌≡◌, ℕ, zero, suc, ◌+◌, ◌<◌, ◌≤◌, nat_le, nat_lt, min, Bool, true, false, cond, ◌&&◌, ◌||◌, Option, Some, None}
use Rattle.std.proofs.Common.{is_some, IsSome, option_map, List, [], ◌∷◌, length, refl, ap, sym, ◌∙◌, subst, arith}
use Rattle.std.proofs.lemmas.Bool.Decides.{nat_tests}
use Rattle.std.proofs.lemmas.Bool.{or_from}
use Rattle.std.proofs.lemmas.Option.{none-some}
use Rattle.std.specs.Cmp.{first_so, second_so}
use Rattle.std.specs.Prelude.{IfSome}
use Rattle.std.specs.List.{filter, find}
use Rattle.std.specs.Ordering.{nat_cmp, eq_by_cmp, is_lt}
use Rattle.std.specs.FinMap as map
use Rattle.std.specs.FinMap.Entries as rising
use Rattle.fl_arena.specs.Chains.{Chains, items}
use Rattle.fl_dir.specs.Arenas.{bare}
use Rattle.fl_dir.specs.Directory.{Listing}
use Rattle.fl_dir.specs.Naming.{is_linked, is_linked_at}
use Rattle.fl_dir.specs.Inside.Next.{IsFirst, IsNext, lesser, linked_in, linked_on, linked_before}
use Rattle.fl_dir.specs.Inside.Numbers.{Numbers, IsHome}
use Rattle.fl_dir.specs.Inside.Spread.{at, IsSpread}
use Rattle.fl_dir.specs.declared.node.Node.{Node}
use Rattle.fl_dir.specs.declared.nodes.Slot.{Slot}
use Rattle.fl_dir.proofs.Bare.{get_bare}
use Rattle.fl_dir.proofs.Entries.{truth, head_below, rest_sorted, above_found, found_at}
use Rattle.fl_dir.proofs.Kept.{seen, node_kept}
use Rattle.fl_dir.proofs.Spread.{same_key, own_key}

differ : (b : Bool) → b ≡ false → b ≡ true → ⊥
differ b low high = let clash : false ≡ true = sym low ∙ high in absurd (cc clash)

lower : (a b : ℕ) → is_lt (nat_cmp a b) ≡ true → a < b
lower a b is = grind (arith, nat_tests)

apart : (a b : ℕ) → a < b → eq_by_cmp nat_cmp a b ≡ false
apart a b less = grind (arith, nat_tests)

reached : (a b : ℕ) → a ≤ b → nat_le a b ≡ true
reached a b h = grind (arith, nat_tests)

passed : (a b : ℕ) → b < a → nat_le a b ≡ false
passed a b h = grind (arith, nat_tests)

at_most : (a b : ℕ) → nat_le a b ≡ true → a ≤ b
at_most a b h = grind (arith, nat_tests)

-- ---- the first number that passes a test

-- numbers from this one on pass the one test if they pass the other
pub next_same : (p r : ℕ → Bool) (from : ℕ) → ((q : ℕ) → from ≤ q → p q ≡ r q) → (o : Option ℕ) → IsNext p from o → IsNext r from o
next_same p r from same None is = λ q h. sym (same q h) ∙ is q h
next_same p r from same (Some n) is = record {
  least = is.least;
  passes = sym (same n is.least) ∙ is.passes;
  before = λ q h l. sym (same q h) ∙ is.before q h l;
}

meet : (m n : ℕ) → (m < n → ⊥) → (n < m → ⊥) → m ≡ n
meet m n f g = go (nat_lt m n) refl (nat_lt n m) refl
  where
    less : (a b : ℕ) → nat_lt a b ≡ true → a < b
    less a b h = grind (arith, nat_tests)

    go : (s : Bool) → nat_lt m n ≡ s → (t : Bool) → nat_lt n m ≡ t → m ≡ n
    go true is t other = absurd (f (less m n is))
    go false is true other = absurd (g (less n m other))
    go false is false other = grind (arith, nat_tests)

next_once : (p : ℕ → Bool) (from : ℕ) (a b : Option ℕ) → IsNext p from a → IsNext p from b → a ≡ b
next_once p from None None f g = refl
next_once p from None (Some n) f g = absurd (differ (p n) (f n g.least) g.passes)
next_once p from (Some m) None f g = absurd (differ (p m) (g m f.least) f.passes)
next_once p from (Some m) (Some n) f g =
    ap Some
    (meet m n (λ l. differ (p m) (g.before m f.least l) f.passes) (λ l. differ (p n) (f.before n g.least l) g.passes))

or_right : (a b : Bool) → b ≡ true → (a || b) ≡ true
or_right true b h = refl
or_right false b h = h

or_left : (a b : Bool) → a ≡ true → (a || b) ≡ true
or_left true b h = refl
or_left false b h = absurd (differ false refl h)

-- the first is found if none before an end is missed, and none from the end on passes
pub next_near : (p : ℕ → Bool) (from stop : ℕ) (o : Option ℕ) → IfSome o (IsFirst p from) → (o ≡ None → (q : ℕ) → from ≤ q → q < stop → p q ≡ false)
    → (o ≡ None → (q : ℕ) → stop ≤ q → p q ≡ false) → IsNext p from o
next_near p from stop (Some n) first near far = first
next_near p from stop None first near far = λ q h. go q h (nat_lt q stop) refl
  where
    under : (a b : ℕ) → nat_lt a b ≡ true → a < b
    under a b h = grind (arith, nat_tests)

    over : (a b : ℕ) → nat_lt a b ≡ false → b ≤ a
    over a b h = grind (arith, nat_tests)

    go : (q : ℕ) → from ≤ q → (b : Bool) → nat_lt q stop ≡ b → p q ≡ false
    go q h true is = near refl q h (under q stop is)
    go q h false is = far refl q (over q stop is)

pub first_there : (p : ℕ → Bool) (from : ℕ) (o : Option ℕ) → IsNext p from o → IfSome o (IsFirst p from)
first_there p from None is = tt
first_there p from (Some n) is = is

-- the lesser of two is the first that passes one of two tests
pub next_lesser : (p r : ℕ → Bool) (from : ℕ) (a b : Option ℕ) → IsNext p from a → IsNext r from b → IsNext (λ q. p q || r q) from (lesser a b)
next_lesser p r from None None f g = λ q h. or_from (p q) (r q) (f q h) (g q h)
next_lesser p r from None (Some n) f g = record {
  least = g.least;
  passes = or_right (p n) (r n) g.passes;
  before = λ q h l. or_from (p q) (r q) (f q h) (g.before q h l);
}
next_lesser p r from (Some m) None f g = record {
  least = f.least;
  passes = or_left (p m) (r m) f.passes;
  before = λ q h l. or_from (p q) (r q) (f.before q h l) (g q h);
}
next_lesser p r from (Some m) (Some n) f g = go (nat_le m n) refl
  where
    lowest : (k : ℕ) → k ≡ min m n → (p k || r k) ≡ true → from ≤ k → IsFirst (λ q. p q || r q) from (min m n)
    lowest k is passes least = subst (IsFirst (λ q. p q || r q) from) is (record {
      least = least;
      passes = passes;
      before = λ q h l. or_from (p q) (r q) (f.before q h (omega (arith, is))) (g.before q h (omega (arith, is)));
    })

    go : (b : Bool) → nat_le m n ≡ b → IsFirst (λ q. p q || r q) from (min m n)
    go true is = let le = at_most m n is in lowest m (omega arith) (or_left (p m) (r m) f.passes) f.least
    go false is = let le = over m n is in lowest n (omega arith) (or_right (p n) (r n) g.passes) g.least
      where
        over : (a b : ℕ) → nat_le a b ≡ false → b < a
        over a b h = grind (arith, nat_tests)

-- ---- in a list of entries in order

module _ {X : Type 0} (t : X → Bool) where
  -- a value that may be there passes
  abbrev pub passes_in : Option X → Bool
  passes_in None = false
  passes_in (Some x) = t x

  -- an entry from a number on passes
  abbrev pub from_on : ℕ → (ℕ × X) → Bool
  from_on from e = nat_le from e.0 && t e.1

  none_under : (k q : ℕ) (es : List (ℕ × X)) → rising.below_all nat_cmp k es ≡ true → q ≤ k → map.find nat_cmp q es ≡ None
  none_under k q [] below h = refl
  none_under k q (e ∷ es) below h =
      let less = lower k e.0 (first_so (is_lt (nat_cmp k e.0)) (rising.below_all nat_cmp k es) below) in
      ap (λ b. cond b (Some e.1) (map.find nat_cmp q es)) (apart q e.0 (omega arith))
      ∙ none_under k q es (second_so (is_lt (nat_cmp k e.0)) (rising.below_all nat_cmp k es) below) h

  second_not : (a b : Bool) → a ≡ true → (a && b) ≡ false → b ≡ false
  second_not true b is h = h
  second_not false b is h = absurd (differ false refl is)

  -- a search finds the first number from one on whose value passes
  pub next_in : (from : ℕ) (es : List (ℕ × X)) → map.is_sorted nat_cmp es ≡ true →
      IsNext (λ q. passes_in (map.find nat_cmp q es)) from (option_map (λ (e : ℕ × X). e.0) (find (from_on from) es))
  next_in from [] sorted = λ q h. refl
  next_in from (e ∷ es) sorted = go (from_on from e) refl (next_in from es (rest_sorted e es sorted))
    where
      same : from_on from e ≡ false → (q : ℕ) → from ≤ q → passes_in (map.find nat_cmp q es) ≡ passes_in (map.find nat_cmp q (e ∷ es))
      same fails q h = here (eq_by_cmp nat_cmp q e.0) refl
        where
          here : (b : Bool) → eq_by_cmp nat_cmp q e.0 ≡ b
              → passes_in (map.find nat_cmp q es) ≡ passes_in (cond b (Some e.1) (map.find nat_cmp q es))
          here false is = refl
          here true is =
              let key : q ≡ e.0 = same_key q e.0 is in
              ap passes_in (none_under e.0 q es (head_below e es sorted) (omega (arith, key)))
              ∙ sym (second_not (nat_le from e.0) (t e.1) (reached from e.0 (omega (arith, key))) fails)

      go : (b : Bool) → from_on from e ≡ b
          → IsNext (λ q. passes_in (map.find nat_cmp q es)) from (option_map (λ (e : ℕ × X). e.0) (find (from_on from) es))
          → IsNext (λ q. passes_in (map.find nat_cmp q (e ∷ es))) from (option_map (λ (e : ℕ × X). e.0) (cond b (Some e) (find (from_on from) es)))
      go true is later = record {
        least = at_most from e.0 (first_so (nat_le from e.0) (t e.1) is);
        passes = ap (λ b. passes_in (cond b (Some e.1) (map.find nat_cmp e.0 es))) (own_key e.0) ∙ second_so (nat_le from e.0) (t e.1) is;
        before = λ q h l. ap (λ b. passes_in (cond b (Some e.1) (map.find nat_cmp q es))) (apart q e.0 l)
            ∙ ap passes_in (none_under e.0 q es (head_below e es sorted) (omega (arith, l)));
      }
      go false is later =
          next_same (λ q. passes_in (map.find nat_cmp q es)) (λ q. passes_in (map.find nat_cmp q (e ∷ es))) from (same is)
          (option_map (λ (e : ℕ × X). e.0) (find (from_on from) es)) later

  -- all numbers of a list are from either number on
  same_from : (a b k : ℕ) (es : List (ℕ × X)) → rising.below_all nat_cmp k es ≡ true → a ≤ k + 1 → b ≤ k + 1 →
      filter (from_on a) es ≡ filter (from_on b) es
  same_from a b k [] below f g = refl
  same_from a b k (e ∷ es) below f g =
      let less = lower k e.0 (first_so (is_lt (nat_cmp k e.0)) (rising.below_all nat_cmp k es) below) in
      let rest = same_from a b k es (second_so (is_lt (nat_cmp k e.0)) (rising.below_all nat_cmp k es) below) f g in
      ap (λ c. cond (c && t e.1) (e ∷ filter (from_on a) es) (filter (from_on a) es)) (reached a e.0 (omega arith))
      ∙ ap (λ (l : List (ℕ × X)). cond (t e.1) (e ∷ l) l) rest
      ∙ sym (ap (λ c. cond (c && t e.1) (e ∷ filter (from_on b) es) (filter (from_on b) es)) (reached b e.0 (omega arith)))

  pub rest_none : (from : ℕ) (es : List (ℕ × X)) → find (from_on from) es ≡ None → filter (from_on from) es ≡ []
  rest_none from [] is = refl
  rest_none from (e ∷ es) is = go (from_on from e) is (rest_none from es)
    where
      go : (b : Bool) → cond b (Some e) (find (from_on from) es) ≡ None → (find (from_on from) es ≡ None → filter (from_on from) es ≡ [])
          → cond b (e ∷ filter (from_on from) es) (filter (from_on from) es) ≡ []
      go true h later = absurd (none-some e (sym h))
      go false h later = later h

  -- behind the first entry from a number on that passes stand those from the next number on
  pub rest_some : (from : ℕ) (es : List (ℕ × X)) (e : ℕ × X) → map.is_sorted nat_cmp es ≡ true → find (from_on from) es ≡ Some e →
      filter (from_on from) es ≡ e ∷ filter (from_on (e.0 + 1)) es
  rest_some from [] e sorted is = absurd (none-some e is)
  rest_some from (f ∷ es) e sorted is = go (from_on from f) refl (rest_some from es e (rest_sorted f es sorted)) is
    where
      without : (n : ℕ) → f.0 < n → filter (from_on n) (f ∷ es) ≡ filter (from_on n) es
      without n less = ap (λ b. cond (b && t f.1) (f ∷ filter (from_on n) es) (filter (from_on n) es)) (passed n f.0 less)

      here : from ≤ f.0 → f ∷ filter (from_on from) es ≡ f ∷ filter (from_on (f.0 + 1)) (f ∷ es)
      here least =
          ap (λ (l : List (ℕ × X)). f ∷ l)
          (same_from from (f.0 + 1) f.0 es (head_below f es sorted) (omega (arith, least)) (omega arith) ∙ sym (without (f.0 + 1) (omega arith)))

      go : (b : Bool) → from_on from f ≡ b → (find (from_on from) es ≡ Some e → filter (from_on from) es ≡ e ∷ filter (from_on (e.0 + 1)) es)
          → cond b (Some f) (find (from_on from) es) ≡ Some e
          → cond b (f ∷ filter (from_on from) es) (filter (from_on from) es) ≡ e ∷ filter (from_on (e.0 + 1)) (f ∷ es)
      go true passes later h =
          let same : f ≡ e = cc h in
          subst (λ (x : ℕ × X). f ∷ filter (from_on from) es ≡ x ∷ filter (from_on (x.0 + 1)) (f ∷ es)) same
          (here (at_most from f.0 (first_so (nat_le from f.0) (t f.1) passes)))
      go false fails later h =
          let less = above_found f.0 (from_on from) es e (head_below f es sorted) h in
          later h ∙ ap (λ (l : List (ℕ × X)). e ∷ l) (sym (without (e.0 + 1) (omega (arith, less))))

-- ---- in the map of nodes

abbrev has_link : Node → Bool
has_link node = node.linked

as_linked : (o : Option Node) → passes_in has_link o ≡ is_linked o
as_linked None = refl
as_linked (Some node) = refl

in_order : (m : map.FinMap nat_cmp Node) → map.is_sorted nat_cmp (map.entries m) ≡ true
in_order m = truth (map.is_sorted nat_cmp (map.entries m)) (map.entries_sorted m)

first_listed : (m : map.FinMap nat_cmp Node) (from : ℕ) (o : Option ℕ) → IsNext (λ q. is_linked (map.get m q)) from o →
    o ≡ option_map (λ (e : ℕ × Node). e.0) (find (from_on has_link from) (map.entries m))
first_listed m from o is =
    next_once (λ q. is_linked (map.get m q)) from o found is
    (next_same (λ q. passes_in has_link (map.find nat_cmp q (map.entries m))) (λ q. is_linked (map.get m q)) from
    (λ q h. as_linked (map.find nat_cmp q (map.entries m)) ∙ ap is_linked (sym (map.get-entries m q))) found
    (next_in has_link from (map.entries m) (in_order m)))
  where
    found : Option ℕ
    found = option_map (λ (e : ℕ × Node). e.0) (find (from_on has_link from) (map.entries m))

pub none_left : (m : map.FinMap nat_cmp Node) (from : ℕ) → IsNext (λ q. is_linked (map.get m q)) from None →
    filter (λ (e : ℕ × Node). nat_le from e.0 && e.1.linked) (map.entries m) ≡ []
none_left m from is = go (find (from_on has_link from) (map.entries m)) refl (first_listed m from None is)
  where
    go : (f : Option (ℕ × Node)) → find (from_on has_link from) (map.entries m) ≡ f → None ≡ option_map (λ (e : ℕ × Node). e.0) f
        → filter (from_on has_link from) (map.entries m) ≡ []
    go None at same = rest_none has_link from (map.entries m) at
    go (Some e) at same = absurd (none-some e.0 same)

pub first_of_rest : (m : map.FinMap nat_cmp Node) (from n : ℕ) (node : Node) → IsNext (λ q. is_linked (map.get m q)) from (Some n) → map.get m n ≡ Some node →
    filter (λ (e : ℕ × Node). nat_le from e.0 && e.1.linked) (map.entries m)
    ≡ (n, node) ∷ filter (λ (e : ℕ × Node). nat_le (n + 1) e.0 && e.1.linked) (map.entries m)
first_of_rest m from n node is there = go (find (from_on has_link from) (map.entries m)) refl (first_listed m from (Some n) is)
  where
    go : (f : Option (ℕ × Node)) → find (from_on has_link from) (map.entries m) ≡ f → Some n ≡ option_map (λ (e : ℕ × Node). e.0) f
        → filter (from_on has_link from) (map.entries m) ≡ (n, node) ∷ filter (from_on has_link (n + 1)) (map.entries m)
    go None at same = absurd (none-some n (sym same))
    go (Some e) at same =
        let key : e.0 ≡ n = cc (sym same) in
        let at_key = found_at (from_on has_link from) (map.entries m) e (in_order m) at in
        let shown : Some e.1 ≡ Some node = sym at_key ∙ ap (λ q. map.find nat_cmp q (map.entries m)) key ∙ sym (map.get-entries m n) ∙ there in
        let value : e.1 ≡ node = cc shown in
        let pair : e ≡ (n, node) = λ i. (key i, value i) in
        subst (λ (x : ℕ × Node). filter (from_on has_link from) (map.entries m) ≡ x ∷ filter (from_on has_link (x.0 + 1)) (map.entries m)) pair
        (rest_some has_link from (map.entries m) e (in_order m) at)

-- a linked node is there
linked_there : (o : Option Node) → is_linked o ≡ true → (node : Node) × (o ≡ Some node)
linked_there None is = absurd (differ false refl is)
linked_there (Some node) is = (node, refl)

-- ---- on chains

as_slot : (o : Option Slot) → passes_in (λ (s : Slot). s.node.linked) o ≡ linked_in o
as_slot None = refl
as_slot (Some s) = refl

-- a search finds the first linked node of a chain, of those from a number on
pub next_at : (a : Chains (ℕ × Slot)) (c from : ℕ) → map.is_sorted nat_cmp (items a c) ≡ true →
    IsNext (linked_on a c) from
    (option_map (λ (e : ℕ × Slot). e.0) (find (λ (e : ℕ × Slot). nat_le from e.0 && e.1.node.linked) (items a c)))
next_at a c from sorted =
    next_same (λ q. passes_in (λ (s : Slot). s.node.linked) (at a c q)) (linked_on a c) from (λ q h. as_slot (at a c q))
    (option_map (λ (e : ℕ × Slot). e.0) (find (λ (e : ℕ × Slot). nat_le from e.0 && e.1.node.linked) (items a c)))
    (next_in (λ (s : Slot). s.node.linked) from (items a c) sorted)

some_before : (a : Chains (ℕ × Slot)) (c count q : ℕ) → c < count → linked_on a c q ≡ true → linked_before a count q ≡ true
some_before a c zero q less is = absurd (omega arith)
some_before a c (suc k) q less is = go (nat_lt c k) refl (some_before a c k q)
  where
    under : nat_lt c k ≡ true → c < k
    under h = grind (arith, nat_tests)

    last : nat_lt c k ≡ false → c < suc k → c ≡ k
    last h l = grind (arith, nat_tests)

    go : (b : Bool) → nat_lt c k ≡ b → (c < k → linked_on a c q ≡ true → linked_before a k q ≡ true) → linked_before a (suc k) q ≡ true
    go true h earlier = or_left (linked_before a k q) (linked_on a k q) (earlier (under h) is)
    go false h earlier = or_right (linked_before a k q) (linked_on a k q) (subst (λ d. linked_on a d q ≡ true) (last h less) is)

none_before : (a : Chains (ℕ × Slot)) (count q : ℕ) → ((c : ℕ) → linked_on a c q ≡ false) → linked_before a count q ≡ false
none_before a zero q none = refl
none_before a (suc k) q none = or_from (linked_before a k q) (linked_on a k q) (none_before a k q none) (none k)

module _ (a : Chains (ℕ × Slot)) (m : map.FinMap nat_cmp Slot) (kept : IsSpread a m) where
  not_on : (q c : ℕ) → linked_in (map.get m q) ≡ false → linked_on a c q ≡ false
  not_on q c none = go (at a c q) refl
    where
      go : (o : Option Slot) → at a c q ≡ o → linked_in o ≡ false
      go None is = refl
      go (Some s) is = sym (ap linked_in (kept.own c q s is)) ∙ none

  on_all : (q : ℕ) → linked_before a (length a.chains) q ≡ linked_in (map.get m q)
  on_all q = go (map.get m q) refl
    where
      slot : (s : Slot) → map.get m q ≡ Some s → (b : Bool) → s.node.linked ≡ b → linked_before a (length a.chains) q ≡ s.node.linked
      slot s is true h =
          let t = kept.there q s is in some_before a t.0 (length a.chains) q t.1.0 (ap linked_in t.1.1 ∙ h) ∙ sym h
      slot s is false h = none_before a (length a.chains) q (λ c. not_on q c (ap linked_in is ∙ h)) ∙ sym h

      go : (o : Option Slot) → map.get m q ≡ o → linked_before a (length a.chains) q ≡ linked_in o
      go None is = none_before a (length a.chains) q (λ c. not_on q c (ap linked_in is))
      go (Some s) is = slot s is s.node.linked refl

  in_bare : (o : Option Slot) → linked_in o ≡ is_linked (option_map (λ (s : Slot). s.node) o)
  in_bare None = refl
  in_bare (Some s) = refl

  -- the first on all chains is the first in the map
  pub next_of_all : (from : ℕ) (o : Option ℕ) → IsNext (linked_before a (length a.chains)) from o → IsNext (λ q. is_linked (map.get (bare m) q)) from o
  next_of_all from o is =
      next_same (linked_before a (length a.chains)) (λ q. is_linked (map.get (bare m) q)) from
      (λ q h. on_all q ∙ in_bare (map.get m q) ∙ ap is_linked (sym (get_bare m q))) o is

-- ---- in a directory

module _ (n : Numbers Slot) (f : Numbers ℕ) (d : Listing) where
  pub slot_there : (q : ℕ) → seen n f ≡ d → is_linked_at d q ≡ true → IsSome (map.get n.values q)
  slot_there q view is =
      let there = linked_there (map.get (bare n.values) q) (subst (λ (d : Listing). is_linked_at d q ≡ true) (sym view) is) in
      let slot = node_kept n.values q (ap is_some there.1) in ap is_some slot.1

  module _ (a : Chains (ℕ × Slot)) where
    given : seen n f ≡ d → IsHome a n → (q : ℕ) → is_linked_at d q ≡ true → q < n.next
    given view home q is =
        let there = linked_there (map.get (bare n.values) q) (subst (λ (d : Listing). is_linked_at d q ≡ true) (sym view) is) in
        let slot = node_kept n.values q (ap is_some there.1) in home.given q slot.0 slot.1

    -- no number is linked that wasn't given
    pub not_given : seen n f ≡ d → IsHome a n → (q : ℕ) → n.next ≤ q → is_linked_at d q ≡ false
    not_given view home q past = go (is_linked_at d q) refl
      where
        go : (b : Bool) → is_linked_at d q ≡ b → b ≡ false
        go true is = let less = given view home q is in absurd (omega arith)
        go false is = refl

    pub given_below : (from : ℕ) (o : Option ℕ) → seen n f ≡ d → IsHome a n → n.next ≤ 18446744073709551615 → IfSome o (IsFirst (is_linked_at d) from)
        → IfSome o (λ k. k < 18446744073709551615)
    given_below from None view home top is = tt
    given_below from (Some k) view home top is = let less = given view home k is.passes in omega arith
