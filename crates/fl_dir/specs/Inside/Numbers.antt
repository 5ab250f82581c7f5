-- Values, each under a number that is given once: numbers only grow.
use Rattle.std.specs.Prelude.{◌≡◌, ℕ, ◌+◌, ◌-◌, ◌<◌, ◌≤◌, ◌^◌, Bool, not, ◌&&◌, ◌||◌, ◌==◌, nat_le, nat_lt}
use Rattle.std.specs.Prelude.{refl, length, Some}
use Rattle.std.specs.Coded.{Coded, code_by, coded×, coded_ℕ}
use Rattle.std.specs.FinMap.{FinMap, code, contains_key, get, len, insert}
use Rattle.std.specs.Ordering.{nat_cmp}
use Rattle.std.specs.Int.Bits.{bit_and}
use Rattle.fl_arena.specs.Chains.{Chains}
use Rattle.fl_dir.specs.Arenas.{joined}
use Rattle.fl_dir.specs.Inside.Spread.{AreSorted, IsEach}
use Rattle.fl_dir.specs.Listed.{AreEntries}

-- the values by number, the number that comes next, and how many values there may be
pub record Numbers (X : Type 0) : Type 0 where
  pub values : FinMap nat_cmp X
  pub next : ℕ
  pub limit : ℕ

-- so many values are there, or all numbers are given
abbrev pub is_full : {X : Type 0} → Numbers X → Bool
is_full n = nat_le n.limit (len n.values) || (n.next == 2 ^ 64 - 1)

-- a number that was given has no value, and there is room for one
abbrev pub has_place : {X : Type 0} → Numbers X → ℕ → Bool
has_place n number = nat_lt number n.next && (not (contains_key n.values number) && nat_lt (len n.values) n.limit)

-- the same with another value at a number
abbrev pub with_value : {X : Type 0} → Numbers X → ℕ → X → Numbers X
with_value n number value = record n { values = insert n.values number value }

-- how proofs tell them apart: by their three parts
abbrev pub numbers_code : {X : Type 0} → Coded X → Coded (Numbers X)
numbers_code {X} coded =
    code_by (FinMap nat_cmp X × (ℕ × ℕ)) (coded× (code coded_ℕ coded) (coded× coded_ℕ coded_ℕ))
    (λ n. (n.values, (n.next, n.limit))) (λ t. record { values = t.0; next = t.1.0; limit = t.1.1 }) (λ _. refl)

-- how they are kept: on few chains, each number on that of its low bits, and below the one that comes next
pub record AreNumbered {X : Type 0} (a : Chains (ℕ × X)) (mask next : ℕ) : Type 0 where
  pub chains : mask + 1 ≡ length a.chains
  pub few : mask < 2 ^ 16
  pub sorted : AreSorted a
  pub home : IsEach (λ c q x. bit_and q mask ≡ c) a
  pub below : IsEach (λ c q x. q < next) a

-- what stands on an arena's chains is these values, each once: all their numbers were given, and they are few enough
pub record IsHome {X : Type 0} (a : Chains (ℕ × X)) (n : Numbers X) : Type 0 where
  pub entries : AreEntries (joined a.chains) n.values
  pub given : (q : ℕ) (x : X) → get n.values q ≡ Some x → q < n.next
  pub few : length (joined a.chains) ≤ n.limit

-- all numbers, and the one that comes next, are above this one
pub record AreAbove {X : Type 0} (least : ℕ) (n : Numbers X) : Type 0 where
  pub next : least < n.next
  pub each : (q : ℕ) (x : X) → get n.values q ≡ Some x → least < q
