-- How values are kept under numbers: on several chains, each number on one of them. The numbers of a chain rise.
use Rattle.std.specs.Prelude.{◌≡◌, ◌≢◌, ◌<◌, ℕ, true, length, Option, Some, if◌then◌else◌}
use Rattle.std.specs.Ordering.{nat_cmp, eq_by_cmp}
use Rattle.std.specs.FinMap.{FinMap, get, is_sorted, find}
use Rattle.fl_arena.specs.Chains.{Chains, entries, items, HasSizeOf}

module _ {X : Type 0} where
  -- what a chain has at a number
  abbrev pub at : Chains (ℕ × X) → ℕ → ℕ → Option X
  at a c q = find nat_cmp q (items a c)

  -- the numbers of each chain rise
  abbrev pub AreSorted : Chains (ℕ × X) → Type 0
  AreSorted a = (c : ℕ) → is_sorted nat_cmp (items a c) ≡ true

  -- this is so of each chain, number and value there
  abbrev pub IsEach : (ℕ → ℕ → X → Type 0) → Chains (ℕ × X) → Type 0
  IsEach P a = (c q : ℕ) (x : X) → at a c q ≡ Some x → P c q x

  -- these values stand on the chains, each on one that is there, and no others
  pub record IsSpread (a : Chains (ℕ × X)) (m : FinMap nat_cmp X) : Type 0 where
    pub sorted : AreSorted a
    pub own : IsEach (λ c q x. get m q ≡ Some x) a
    pub there : (q : ℕ) (x : X) → get m q ≡ Some x → (c : ℕ) × ((c < length a.chains) × (at a c q ≡ Some x))

  -- one chain has another value at a number, or none, and all else is as it was
  pub record IsAltered (a b : Chains (ℕ × X)) (c k : ℕ) (w : Option X) : Type 0 where
    pub size : HasSizeOf a b
    pub sorted : AreSorted b
    pub here : (q : ℕ) → at b c q ≡ (if eq_by_cmp nat_cmp q k then w else at a c q)
    pub others : (d : ℕ) → d ≢ c → entries b d ≡ entries a d
