-- Numbered values on their chains.
use Rattle.std.proofs.Common.{◌≡◌, ◌≢◌, ◌==◌, ℕ, ◌+◌, ◌^◌, ◌<◌, ◌≤◌, Bool, true, false, not, ◌&&◌, ◌||◌, is_some, nat_le, nat_lt, Option, Some, None, IsSome}
use Rattle.std.proofs.Common.{cond, length, refl, ap, sym, ◌∙◌, subst, arith}
use Rattle.std.proofs.lemmas.Bool.Decides.{nat_tests}
use Rattle.std.proofs.lemmas.Nat.{and_le_r}
use Rattle.std.proofs.lemmas.Option.{none-some}
use Rattle.std.specs.Prelude.{[], replicate}
use Rattle.std.specs.Int.Bits.{bit_and}
use Rattle.std.specs.Cmp.{nat_cmp_total}
use Rattle.std.specs.Ordering.{nat_cmp, eq_by_cmp}
use Rattle.std.specs.FinMap as map
use Rattle.fl_arena.specs.Chains.{Chains, item_count}
use Rattle.fl_dir.specs.Inside.Numbers.{Numbers, AreAbove, AreNumbered, has_place}
use Rattle.fl_dir.specs.Arenas.{values_on}
use Rattle.fl_dir.specs.Inside.Spread.{at, IsAltered, IsSpread}
use Rattle.fl_dir.proofs.Spread.{same_key, none_of, some_of, counted, get_only, each_altered, none_at, none_sorted, chains_made}

pub below_limit : (most n : ℕ) (t : Bool) → (nat_le most n || t) ≡ false → n < most
below_limit most n t clear = go (nat_le most n) refl clear
  where
    go : (b : Bool) → nat_le most n ≡ b → (b || t) ≡ false → n < most
    go true is h = absurd (cc h)
    go false is h = grind (arith, nat_tests)

module _ {X : Type 0} where
  pub in_range : (a : Chains (ℕ × X)) (mask next k c : ℕ) → AreNumbered a mask next → c ≡ bit_and k mask → c < length a.chains
  in_range a mask next k c kept is = omega (arith, kept.chains, and_le_r k mask, is)

  pub alone : (a : Chains (ℕ × X)) (mask next k c : ℕ) → AreNumbered a mask next → c ≡ bit_and k mask → (d : ℕ) → d ≢ c → at a d k ≡ None
  alone a mask next k c kept is d apart = none_of (at a d k) (λ x found. apart (sym (kept.home d k x found) ∙ sym is))

  pub get_at : (a : Chains (ℕ × X)) (mask next k c : ℕ) → AreNumbered a mask next → c ≡ bit_and k mask → map.get (values_on a) k ≡ at a c k
  get_at a mask next k c kept is = get_only a c k (alone a mask next k c kept is)

  pub none_next : (a : Chains (ℕ × X)) (mask next : ℕ) → AreNumbered a mask next → (c q : ℕ) → next ≤ q → at a c q ≡ None
  none_next a mask next kept c q most = none_of (at a c q) (λ x found. let less : q < next = kept.below c q x found in absurd (omega arith))

  pub below_next : (a : Chains (ℕ × X)) (mask next c k : ℕ) → AreNumbered a mask next → IsSome (at a c k) → k < next
  below_next a mask next c k kept some = let x = some_of (at a c k) some in kept.below c k x.0 x.1

  pub as_many : (a : Chains (ℕ × X)) (mask next : ℕ) → AreNumbered a mask next → map.len (values_on a) ≡ item_count a
  as_many a mask next kept = counted a kept.sorted (λ c d q x y p r. sym (kept.home c q x p) ∙ kept.home d q y r)

  pub is_spread : (a : Chains (ℕ × X)) (mask next : ℕ) → AreNumbered a mask next → IsSpread a (values_on a)
  is_spread a mask next kept = record {
    sorted = kept.sorted;
    own = λ c q x is. get_at a mask next q c kept (sym (kept.home c q x is)) ∙ is;
    there = λ q x is. (
      bit_and q mask,
      (in_range a mask next q (bit_and q mask) kept refl, sym (get_at a mask next q (bit_and q mask) kept refl) ∙ is),
    );
  }

  pub altered_numbers : (a b : Chains (ℕ × X)) (mask next next1 k c : ℕ) (w : Option X) → AreNumbered a mask next → IsAltered a b c k w
      → c ≡ bit_and k mask → next ≤ next1 → ((x : X) → w ≡ Some x → k < next1) → AreNumbered b mask next1
  altered_numbers a b mask next next1 k c w kept new is more less = record {
    chains = kept.chains ∙ sym new.size.chains;
    few = kept.few;
    sorted = new.sorted;
    home = each_altered (λ d q x. bit_and q mask ≡ d) a b c k w new kept.home (λ x e. sym is);
    below =
        each_altered (λ d q x. q < next1) a b c k w new
        (λ d q x found. let under : q < next = kept.below d q x found in omega arith) less;
  }

  pub skipped_numbers : (a : Chains (ℕ × X)) (mask next next1 : ℕ) → AreNumbered a mask next → next ≤ next1 → AreNumbered a mask next1
  skipped_numbers a mask next next1 kept less = record {
    chains = kept.chains;
    few = kept.few;
    sorted = kept.sorted;
    home = kept.home;
    below = λ d q x found. let under : q < next = kept.below d q x found in omega arith;
  }

  -- ---- room

  -- if all slots hold items, so many are there
  pub full_of_none : (a : Chains (ℕ × X)) (mask next free : ℕ) (b : Bool) → AreNumbered a mask next → item_count a + free ≡ a.slots → free ≡ 0 →
      true ≡ (nat_le a.slots (map.len (values_on a)) || b)
  full_of_none a mask next free b kept total none =
      let all : a.slots ≤ map.len (values_on a) = omega (arith, as_many a mask next kept, total, none) in
      ap (λ t. t || b) (reached _ _ all)
    where
      reached : (m n : ℕ) → m ≤ n → true ≡ nat_le m n
      reached m n h = grind (arith, nat_tests)

  pub room_of_some : (a : Chains (ℕ × X)) (mask next free : ℕ) (b : Bool) → AreNumbered a mask next → item_count a + free ≡ a.slots → free ≢ 0 →
      b ≡ (nat_le a.slots (map.len (values_on a)) || b)
  room_of_some a mask next free b kept total some =
      let few : map.len (values_on a) < a.slots = omega (arith, as_many a mask next kept, total, some) in
      ap (λ t. t || b) (missed _ _ few)
    where
      missed : (m n : ℕ) → n < m → false ≡ nat_le m n
      missed m n h = grind (arith, nat_tests)

  -- if a limit isn't reached there is room
  pub room_left : (a : Chains (ℕ × X)) (mask next : ℕ) (b : Bool) → AreNumbered a mask next →
      (nat_le a.slots (map.len (values_on a)) || b) ≡ false → item_count a < a.slots
  room_left a mask next b kept clear =
      let few = below_limit a.slots (map.len (values_on a)) b clear in
      omega (arith, as_many a mask next kept, few)

-- what a place says
pub record IsPlace {X : Type 0} (n : Numbers X) (number : ℕ) : Type 0 where
  pub below : number < n.next
  pub fresh : map.get n.values number ≡ None
  pub room : map.len n.values < n.limit

pub is_place : {X : Type 0} (n : Numbers X) (number : ℕ) → has_place n number ≡ true → IsPlace n number
is_place {X = X} n number is = go (nat_lt number n.next) refl (map.get n.values number) refl (nat_lt (map.len n.values) n.limit) refl is
  where
    lower : (a b : ℕ) → nat_lt a b ≡ true → a < b
    lower a b h = grind (arith, nat_tests)

    go : (a : Bool) → nat_lt number n.next ≡ a → (o : Option X) → map.get n.values number ≡ o → (r : Bool) → nat_lt (map.len n.values) n.limit ≡ r
        → (a && (not (is_some o) && r)) ≡ true → IsPlace n number
    go true below None fresh true room h = record { below = lower _ _ below; fresh = fresh; room = lower _ _ room }
    go true below None fresh false room h = absurd (cc h)
    go true below (Some x) fresh r room h = absurd (cc h)
    go false below o fresh r room h = absurd (cc h)

-- a number that was given and has no value has a place if a slot is free
pub place_is : {X : Type 0} (n : Numbers X) (number free : ℕ) → number < n.next → map.get n.values number ≡ None → map.len n.values + free ≡ n.limit
    → not (free == 0) ≡ has_place n number
place_is {X = X} n number free below fresh total = λ i. given i && (not (is_some (sym fresh i)) && some (map.len n.values) n.limit total i)
  where
    lower : (a b : ℕ) → a < b → true ≡ nat_lt a b
    lower a b h = grind (arith, nat_tests)

    given : true ≡ nat_lt number n.next
    given = lower number n.next below

    some : (a b : ℕ) → a + free ≡ b → not (free == 0) ≡ nat_lt a b
    some a b h = grind (arith, nat_tests)

module _ {X : Type 0} where
  -- if fewer values are there than there may be, there is room for an item
  pub room_at : (a : Chains (ℕ × X)) (mask next : ℕ) → AreNumbered a mask next → map.len (values_on a) < a.slots → item_count a < a.slots
  room_at a mask next kept few = omega (arith, as_many a mask next kept, few)

-- numbers with equal values and limits
pub same_numbers : {X : Type 0} (m n : map.FinMap nat_cmp X) (next k l : ℕ) → m ≡ n → k ≡ l
    → ◌≡◌ {A = Numbers X} (record { values = m; next = next; limit = k }) (record { values = n; next = next; limit = l })
same_numbers m n next k l p q = λ i. record { values = p i; next = next; limit = q i }

module _ {X : Type 0} where
  pub new_numbers : (a : Chains (ℕ × X)) (n slots mask next : ℕ) → a ≡ record { chains = replicate n []; slots = slots } → mask + 1 ≡ n → n ≤ 2 ^ 16 → AreNumbered a mask next
  new_numbers a n slots mask next is size most = record {
    chains = size ∙ sym (chains_made a n slots is);
    few = omega (arith, size, most);
    sorted = none_sorted a n slots is;
    home = λ c q x there. absurd (none-some x (sym (none_at a n slots is c q) ∙ there));
    below = λ c q x there. absurd (none-some x (sym (none_at a n slots is c q) ∙ there));
  }

-- ---- numbers above one that is never given

module _ {X : Type 0} (least : ℕ) (n : Numbers X) (kept : AreAbove least n) where
  pub above_put : (k : ℕ) (x : X) (next : ℕ) → least < k → least < next → AreAbove least (record n { values = map.insert n.values k x; next = next })
  above_put k x next high up = record {
    next = up;
    each = λ q y is. go q y (eq_by_cmp nat_cmp q k) refl (sym (map.get-insert nat_cmp_total n.values k x q) ∙ is);
  }
    where
      go : (q : ℕ) (y : X) (b : Bool) → eq_by_cmp nat_cmp q k ≡ b → cond b (Some x) (map.get n.values q) ≡ Some y → least < q
      go q y true same is = subst (λ i. least < i) (sym (same_key q k same)) high
      go q y false other is = kept.each q y is

  -- another value at a number that has one
  pub above_changed : (k : ℕ) (s t : X) → map.get n.values k ≡ Some s → AreAbove least (record n { values = map.insert n.values k t })
  above_changed k s t there = above_put k t n.next (kept.each k s there) kept.next

  pub above_removed : (k : ℕ) → AreAbove least (record n { values = map.remove n.values k })
  above_removed k = record {
    next = kept.next;
    each = λ q y is. go q y (eq_by_cmp nat_cmp q k) (sym (map.get-remove nat_cmp_total n.values k q) ∙ is);
  }
    where
      go : (q : ℕ) (y : X) (b : Bool) → cond b None (map.get n.values q) ≡ Some y → least < q
      go q y true is = absurd (none-some y is)
      go q y false is = kept.each q y is

pub above_none : {X : Type 0} (least : ℕ) (n : Numbers X) → n.values ≡ map.empty → least < n.next → AreAbove least n
above_none least n none up = record {
  next = up;
  each = λ q x is. absurd (none-some x (sym (ap (λ m. map.get m q) none ∙ map.get-empty nat_cmp q) ∙ is));
}
