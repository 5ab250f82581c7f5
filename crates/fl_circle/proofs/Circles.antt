-- The test for a circle, and a circle in words.
use Rattle.std.proofs.Common.{◌≡◌, ◌↔◌, ℕ, zero, suc, ◌<◌, Bool, true, false, ◌&&◌, ◌||◌, ◌⊎◌, inl, inr, ⊎_elim, List}
use Rattle.std.proofs.Common.{[], ◌∷◌, ◌++◌, length, map, get_or, refl, sym, subst, arith}
use Rattle.std.specs.List.{Contains}
use Rattle.std.specs.List.Sorted.{IsPermutation}
use Rattle.std.proofs.lemmas.List.Sorted.{Contains-permutation, IsPermutation-sym}
use Rattle.fl_waiting.specs.Circle.{leads, Waits, IsPath, IsCircle}

-- ---- a way without the first request, or by it

by_two : (x y z : Bool) → (x || (y && z)) ≡ true → (x ≡ true) ⊎ ((y ≡ true) × (z ≡ true))
by_two true y z e = inl refl
by_two false true true e = inr (refl, refl)
by_two false true false e = absurd (cc e)
by_two false false z e = absurd (cc e)

without : (x y z : Bool) → x ≡ true → (x || (y && z)) ≡ true
without true y z e = refl
without false y z e = absurd (cc e)

through : (x y z : Bool) → y ≡ true → z ≡ true → (x || (y && z)) ≡ true
through true y z e f = refl
through false true true e f = refl
through false true false e f = absurd (cc f)
through false false z e f = absurd (cc e)

-- a request stands in the list
Stands : {A : Type 0} → List A → A → Type 0
Stands [] s = ⊥
Stands (r ∷ rs) s = (r ≡ s) ⊎ Stands rs s

stands_at : {A : Type 0} (xs : List A) (s : A) (k : ℕ) → k < length xs → get_or xs k s ≡ s → Stands xs s
unfolding Stands
stands_at [] s k h e = absurd (omega arith)
stands_at (x ∷ xs) s zero h e = inl e
stands_at (x ∷ xs) s (suc k) h e = inr (stands_at xs s k (omega arith) e)

contains : {A : Type 0} (xs : List A) (s : A) → Stands xs s → Contains xs s
unfolding Stands
contains [] s h = absurd h
contains (x ∷ xs) s (inl e) = (0, omega arith, e)
contains (x ∷ xs) s (inr h) = let c = contains xs s h in (suc c.0, omega arith, c.2)

stands : {A : Type 0} (xs : List A) (s : A) → Contains xs s → Stands xs s
stands xs s c = stands_at xs s c.0 c.1 c.2

-- What leads from a request a to the owner of s, and what leads from s to q, by or without the first request r. Each
-- name says from where to where.
meet : (a_s a_r r_s s_q s_r r_q a_q : Bool) → (a_s ≡ true → s_q ≡ true → a_q ≡ true) → (a_s ≡ true → s_r ≡ true → a_r ≡ true)
    → (r_s ≡ true → s_q ≡ true → r_q ≡ true)
    → (a_s ≡ true) ⊎ ((a_r ≡ true) × (r_s ≡ true)) → (s_q ≡ true) ⊎ ((s_r ≡ true) × (r_q ≡ true)) → (a_q || (a_r && r_q)) ≡ true
meet a_s a_r r_s s_q s_r r_q a_q f g h (inl p) (inl q) = without a_q a_r r_q (f p q)
meet a_s a_r r_s s_q s_r r_q a_q f g h (inl p) (inr q) = through a_q a_r r_q (g p q.0) q.1
meet a_s a_r r_s s_q s_r r_q a_q f g h (inr p) (inl q) = through a_q a_r r_q p.0 (h p.1 q)
meet a_s a_r r_s s_q s_r r_q a_q f g h (inr p) (inr q) = through a_q a_r r_q p.0 q.1

-- and where s is the first request itself
meet_first : (a_r r_r r_q a_q : Bool) → (a_r ≡ true) ⊎ ((a_r ≡ true) × (r_r ≡ true)) → (r_q ≡ true) ⊎ ((r_r ≡ true) × (r_q ≡ true))
    → (a_q || (a_r && r_q)) ≡ true
meet_first a_r r_r r_q a_q p q = through a_q a_r r_q (⊎_elim (λ h. h) (λ h. h.0) p) (⊎_elim (λ h. h) (λ h. h.1) q)

module _ {A : Type 0} (owner_of : A → ℕ) (blocks : A → ℕ → Bool) where
  abbrev L : List A → A → ℕ → Bool
  L = leads owner_of blocks

  -- an owner in the way is led to
  pub leads_directly : (rs : List A) (a : A) (q : ℕ) → blocks a q ≡ true → leads owner_of blocks rs a q ≡ true
  unfolding leads
  leads_directly [] a q h = h
  leads_directly (r ∷ rs) a q h = without (L rs a q) (L rs a (owner_of r)) (L rs r q) (leads_directly rs a q h)

  on : (rs : List A) (a s : A) (q : ℕ) → Stands rs s → leads owner_of blocks rs a (owner_of s) ≡ true → leads owner_of blocks rs s q ≡ true
      → leads owner_of blocks rs a q ≡ true
  unfolding leads Stands
  on [] a s q i h k = absurd i
  on (r ∷ rs) a s q (inl e) h k =
      meet_first (L rs a (owner_of r)) (L rs r (owner_of r)) (L rs r q) (L rs a q)
      (by_two _ _ _ (subst (λ t. leads owner_of blocks (r ∷ rs) a (owner_of t) ≡ true) (sym e) h))
      (by_two _ _ _ (subst (λ t. leads owner_of blocks (r ∷ rs) t q ≡ true) (sym e) k))
  on (r ∷ rs) a s q (inr i) h k =
      meet (L rs a (owner_of s)) (L rs a (owner_of r)) (L rs r (owner_of s)) (L rs s q) (L rs s (owner_of r)) (L rs r q) (L rs a q)
      (on rs a s q i) (on rs a s (owner_of r) i) (on rs r s q i)
      (by_two (L rs a (owner_of s)) (L rs a (owner_of r)) (L rs r (owner_of s)) h) (by_two (L rs s q) (L rs s (owner_of r)) (L rs r q) k)

  -- and so is an owner whom a request waits for, of an owner that is led to
  pub leads_on : (rs : List A) (a s : A) (q : ℕ) → Contains rs s → leads owner_of blocks rs a (owner_of s) ≡ true → blocks s q ≡ true
      → leads owner_of blocks rs a q ≡ true
  leads_on rs a s q i h k = on rs a s q (stands rs s i) h (leads_directly rs s q k)

  module _ (waiting : List A) where
    abbrev Path : ℕ → List ℕ → ℕ → Type 0
    Path = IsPath owner_of blocks waiting

    joined : (p : ℕ) (xs : List ℕ) (m : ℕ) (ys : List ℕ) (q : ℕ) → Path p xs m → Path m ys q → Path p (xs ++ m ∷ ys) q
    joined p [] m ys q w path = (w, path)
    joined p (x ∷ xs) m ys q w path = (w.0, joined x xs m ys q w.1 path)

    -- what the test says, in words
    Led : A → ℕ → Type 0
    Led a q = (blocks a q ≡ true) ⊎ ((p : ℕ) × (others : List ℕ) × (blocks a p ≡ true) × Path p others q)

    -- a request of the list waits as its owner
    as_owner : (r : A) (q : ℕ) → Contains waiting r → Led r q → (others : List ℕ) × Path (owner_of r) others q
    unfolding Led
    as_owner r q i (inl h) = ([], record { request = r; among = i; of = refl; blocked = h })
    as_owner r q i (inr w) = (w.0 ∷ w.1, (record { request = r; among = i; of = refl; blocked = w.2 }, w.3))

    both : (a r : A) (q : ℕ) → Contains waiting r → Led a (owner_of r) → Led r q → Led a q
    unfolding Led
    both a r q i (inl h) led = let w = as_owner r q i led in inr (owner_of r, w.0, h, w.1)
    both a r q i (inr d) led = let w = as_owner r q i led in inr (d.0, d.1 ++ owner_of r ∷ w.0, d.2, joined d.0 d.1 (owner_of r) w.0 q d.3 w.1)

    in_words : (rs : List A) → ((s : A) → Stands rs s → Contains waiting s) → (a : A) (q : ℕ) → leads owner_of blocks rs a q ≡ true → Led a q
    unfolding leads Stands Led
    in_words [] all a q h = inl h
    in_words (r ∷ rs) all a q h =
        let rest = in_words rs (λ s i. all s (inr i)) in
        ⊎_elim (rest a q) (λ w. both a r q (all r (inl refl)) (rest a (owner_of r) w.0) (rest r q w.1)) (by_two (L rs a q) (L rs a (owner_of r)) (L rs r q) h)

    as_told : (p : ℕ) (others : List ℕ) (a : A) (q : ℕ) → blocks a p ≡ true → Path p others q → leads owner_of blocks waiting a q ≡ true
    as_told p [] a q h w =
        on waiting a w.request q (stands waiting w.request w.among)
        (leads_directly waiting a (owner_of w.request) (subst (λ x. blocks a x ≡ true) (sym w.of) h)) (leads_directly waiting w.request q w.blocked)
    as_told p (x ∷ others) a q h w =
        let v = w.0 in
        on waiting a v.request q (stands waiting v.request v.among)
        (leads_directly waiting a (owner_of v.request) (subst (λ y. blocks a y ≡ true) (sym v.of) h)) (as_told x others v.request q v.blocked w.1)

    pub circle_words : (a : A) → blocks a (owner_of a) ≡ false → (leads owner_of blocks waiting a (owner_of a) ≡ true) ↔ IsCircle owner_of blocks waiting a
    unfolding Led
    circle_words a own = (
      λ h.
          ⊎_elim (λ e. absurd (cc (e, own))) (λ w. record { first = w.0; others = w.1; blocked = w.2; path = w.3 })
          (in_words waiting (contains waiting) a (owner_of a) h),
      λ w. as_told w.first w.others a (owner_of a) w.blocked w.path,
    )

    -- the same requests in another order
    module _ (others : List A) (moved : IsPermutation waiting others) where
      waits_there : (p q : ℕ) → Waits owner_of blocks waiting p q → Waits owner_of blocks others p q
      waits_there p q w = record { request = w.request; among = Contains-permutation waiting others w.request moved w.among; of = w.of; blocked = w.blocked }

      path_there : (p : ℕ) (xs : List ℕ) (q : ℕ) → Path p xs q → IsPath owner_of blocks others p xs q
      path_there p [] q w = waits_there p q w
      path_there p (x ∷ xs) q w = (waits_there p x w.0, path_there x xs q w.1)

      pub circle_there : (a : A) → IsCircle owner_of blocks waiting a → IsCircle owner_of blocks others a
      circle_there a w = record { first = w.first; others = w.others; blocked = w.blocked; path = path_there w.first w.others (owner_of a) w.path }

-- a request leads back to its owner through requests in whatever order
pub leads_moved : {A : Type 0} (owner_of : A → ℕ) (blocks : A → ℕ → Bool) (xs ys : List A) (a : A) → IsPermutation xs ys → blocks a (owner_of a) ≡ false
    → leads owner_of blocks xs a (owner_of a) ≡ leads owner_of blocks ys a (owner_of a)
leads_moved owner_of blocks xs ys a moved own =
    let here = circle_words owner_of blocks xs a own in
    let there = circle_words owner_of blocks ys a own in
    same_test _ _ (λ e. there.1 (circle_there owner_of blocks xs ys moved a (here.0 e)))
    (λ e. here.1 (circle_there owner_of blocks ys xs (IsPermutation-sym xs ys moved) a (there.0 e)))
  where
    same_test : (b c : Bool) → (b ≡ true → c ≡ true) → (c ≡ true → b ≡ true) → b ≡ c
    same_test true c f g = sym (f refl)
    same_test false true f g = g refl
    same_test false false f g = refl

-- requests that mean others lead where these do
pub leads_alike : {A B : Type 0} (f : A → B) (owner_of : B → ℕ) (blocks : B → ℕ → Bool) (rs : List A) (a : A) (q : ℕ)
    → leads (λ r. owner_of (f r)) (λ r. blocks (f r)) rs a q ≡ leads owner_of blocks (map f rs) (f a) q
unfolding leads
leads_alike f owner_of blocks [] a q = refl
leads_alike f owner_of blocks (r ∷ rs) a q =
    λ i. leads_alike f owner_of blocks rs a q i || (leads_alike f owner_of blocks rs a (owner_of (f r)) i && leads_alike f owner_of blocks rs r q i)
