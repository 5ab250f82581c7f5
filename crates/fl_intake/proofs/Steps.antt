-- Each step of an end keeps the rule, and what an end with all shares is told.
use Rattle.std.proofs.Common.{◌≡◌, ◌≢◌, ℕ, zero, suc, ◌+◌, ◌-◌, ◌<◌, ◌≤◌, List, [], ◌∷◌, ◌++◌, length, set}
use Rattle.std.proofs.Common.{sym, refl, ap, ◌∙◌, subst, ⊎_elim, arith, length-append, append-nil}
use Rattle.std.specs.Prelude.{sum_by}
use Rattle.std.proofs.lemmas.List.Sums.{sum_by-cons, sum_by-append}
use mathlib.Core.Option.{some, some-injective, some-ne-none}
use lib.ListN.{get_elem?}
use Rattle.crossbeam_queue.specs.Fifo.{Pushes, Pops, Forks, Merges, Learns}
use Rattle.crossbeam_queue.proofs.Lists.{at_set, at_snoc}
use Rattle.fl_order.specs.declared.order.Order.{Order}
use Rattle.fl_intake.specs.declared.rule.Known.{Known}
use Rattle.fl_intake.specs.Inside.Conserved.{knows, AreSpent, IsConserved, IsTold, HasTaken}
use Rattle.fl_intake.specs.Often.{Weight}

-- An end that put and took nothing, if it has no share.
abbrev IsSpent : Known → Type 0
IsSpent end = end.shares ≡ 0 → (end.put ≡ []) × (end.taken ≡ [])

abbrev pub shares_of : Known → ℕ
shares_of end = end.shares

abbrev pub taken_of : Known → List Order
taken_of end = end.taken

-- what an end put, and what it took, weighed
abbrev pub put_by : Weight → Known → ℕ
put_by weight end = sum_by weight end.put

abbrev pub taken_by : Weight → Known → ℕ
taken_by weight end = sum_by weight end.taken

-- a sum over all ends, if one of them has changed
sum_set : (f : Known → ℕ) (ends : List Known) (at : ℕ) (old new : Known) → get_elem? ends at ≡ some old
    → sum_by f (set ends at new) + f old ≡ sum_by f ends + f new
sum_set f [] at old new e = absurd (some-ne-none old (sym e))
sum_set f (x ∷ xs) zero old new e = omega (arith, sum_by-cons f x xs, sum_by-cons f new xs, ap f (some-injective x old e))
sum_set f (x ∷ xs) (suc at) old new e = omega (arith, sum_by-cons f x xs, sum_by-cons f x (set xs at new), sum_set f xs at old new e)

spent_set : (ends : List Known) (at : ℕ) (new : Known) → IsSpent new → AreSpent ends → AreSpent (set ends at new)
spent_set ends at new here all j end e = ⊎_elim
    (λ (here_it_is : (j ≡ at) × (new ≡ end)). subst IsSpent here_it_is.1 here)
    (λ (elsewhere : (j ≢ at) × (get_elem? ends j ≡ some end)). all j end elsewhere.1)
    (at_set ends at j new end e)

spent_snoc : (ends : List Known) (new : Known) → IsSpent new → AreSpent ends → AreSpent (ends ++ new ∷ [])
spent_snoc ends new last all j end e = ⊎_elim
    (λ (before : get_elem? ends j ≡ some end). all j end before)
    (λ (at_last : new ≡ end). subst IsSpent at_last last)
    (at_snoc ends new end j e)

none_spent : AreSpent []
none_spent at end e = absurd (some-ne-none end (sym e))

-- an end with a share
has_share : (end : Known) → 0 < end.shares → IsSpent end
has_share end owned none = absurd (omega arith)

-- if no end has a share, nothing was put or taken
nothing_done : (f : Known → ℕ) → ((end : Known) → end.put ≡ [] → end.taken ≡ [] → f end ≡ 0)
    → (ends : List Known) → AreSpent ends → sum_by shares_of ends ≡ 0 → sum_by f ends ≡ 0
nothing_done f empty [] spent none = refl
nothing_done f empty (x ∷ xs) spent none =
    let all = sum_by-cons shares_of x xs in
    let here = spent 0 x refl (omega arith) in
    let rest = nothing_done f empty xs (λ j end e. spent (suc j) end e) (omega arith) in
    omega (arith, sum_by-cons f x xs, rest, empty x here.0 here.1)

-- whoever has all shares put and took all that was put and taken
all_by_one : (f : Known → ℕ) → ((end : Known) → end.put ≡ [] → end.taken ≡ [] → f end ≡ 0)
    → (ends : List Known) (at : ℕ) (end : Known) → AreSpent ends → get_elem? ends at ≡ some end
    → sum_by shares_of ends ≡ end.shares → sum_by f ends ≡ f end
all_by_one f empty ends at end spent here all =
    let gone = knows 0 [] [] in
    let shares = sum_set shares_of ends at end gone here in
    let rest = nothing_done f empty (set ends at gone) (spent_set ends at gone (λ _. (refl, refl)) spent) (omega arith) in
    omega (arith, sum_set f ends at end gone here, rest, empty gone refl refl)

shares_at_most : (ends : List Known) (at : ℕ) (end : Known) → get_elem? ends at ≡ some end → end.shares ≤ sum_by shares_of ends
shares_at_most ends at end here = omega (arith, sum_set shares_of ends at end (knows 0 [] []) here)

-- with all shares: what was put is what was taken and what is inside
told_all : (at : ℕ) (end : Known) (inside : List Order) (ends : List Known) → IsConserved inside ends → get_elem? ends at ≡ some end
    → end.shares ≡ 17 → (weight : Weight) → sum_by weight end.put ≡ sum_by weight end.taken + sum_by weight inside
told_all at end inside ends kept here all weight =
    let every = kept.shares ∙ sym all in
    let put = all_by_one (put_by weight) (λ e p t. ap (sum_by weight) p) ends at end kept.spent here every in
    let taken = all_by_one (taken_by weight) (λ e p t. ap (sum_by weight) t) ends at end kept.spent here every in
    omega (arith, put, taken, kept.weighs weight)

pub tells : (at : ℕ) (end : Known) → Learns IsConserved at end (IsTold end)
tells at end inside ends kept here = record {
  shares = omega (arith, shares_at_most ends at end here, kept.shares);
  room = kept.room;
  whole = told_all at end inside ends kept here;
}

pub puts : (room at : ℕ) (end : Known) (order : Order) → room ≤ 64 → 0 < end.shares
    → Pushes IsConserved room at end order (λ new. new ≡ knows end.shares (end.put ++ order ∷ []) end.taken)
puts room at end order small owned inside ends short kept here =
    let new = knows end.shares (end.put ++ order ∷ []) end.taken in (
      new,
      record {
        shares = omega (arith, sum_set shares_of ends at end new here, kept.shares);
        weighs = λ weight. omega (
          arith,
          sum_set (put_by weight) ends at end new here,
          sum_set (taken_by weight) ends at end new here,
          sum_by-append weight end.put (order ∷ []),
          sum_by-append weight inside (order ∷ []),
          kept.weighs weight,
        );
        spent = spent_set ends at new (has_share new owned) kept.spent;
        room = omega (arith, length-append inside (order ∷ []));
      },
      refl,
    )

-- each order weighs 1
abbrev each : Weight
each _ = 1

how_many : (xs : List Order) → sum_by each xs ≡ length xs
how_many [] = refl
how_many (x ∷ xs) = omega (arith, sum_by-cons each x xs, how_many xs)

pub takes : (at : ℕ) (end : Known) → 0 < end.shares → Pops IsConserved at end (HasTaken end)
takes at end owned order inside ends kept here =
    let new = knows end.shares end.put (end.taken ++ order ∷ []) in (
      new,
      record {
        shares = omega (arith, sum_set shares_of ends at end new here, kept.shares);
        weighs = λ weight. omega (
          arith,
          sum_set (put_by weight) ends at end new here,
          sum_set (taken_by weight) ends at end new here,
          sum_by-append weight end.taken (order ∷ []),
          sum_by-cons weight order inside,
          sum_by-cons weight order [],
          kept.weighs weight,
        );
        spent = spent_set ends at new (has_share new owned) kept.spent;
        room = let most = kept.room in omega arith;
      },
      record {
        one_more = refl;
        left = λ all. omega (
          arith,
          how_many end.put,
          how_many end.taken,
          how_many (order ∷ inside),
          told_all at end (order ∷ inside) ends kept here all each,
        );
      },
    )

pub shares_out : (at : ℕ) (end : Known) → 1 < end.shares
    → Forks IsConserved at end (knows (end.shares - 1) end.put end.taken) (knows 1 [] [])
shares_out at end two inside ends kept here =
    let less = knows (end.shares - 1) end.put end.taken in
    let one = knows 1 [] [] in
    let rest = set ends at less in
    record {
      shares = omega (arith, sum_set shares_of ends at end less here, sum_by-append shares_of rest (one ∷ []), kept.shares);
      weighs = λ weight. omega (
        arith,
        sum_set (put_by weight) ends at end less here,
        sum_set (taken_by weight) ends at end less here,
        sum_by-append (put_by weight) rest (one ∷ []),
        sum_by-append (taken_by weight) rest (one ∷ []),
        kept.weighs weight,
      );
      spent = spent_snoc rest one (has_share one (omega arith)) (spent_set ends at less (has_share less (omega arith)) kept.spent);
      room = kept.room;
    }

pub joins : (at : ℕ) (end : Known) (at' : ℕ) (other : Known) → 0 < end.shares → Merges IsConserved at end at' other
    (knows (end.shares + other.shares) (end.put ++ other.put) (end.taken ++ other.taken)) (knows 0 [] [])
joins at end at' other owned inside ends kept here apart here' =
    let both = knows (end.shares + other.shares) (end.put ++ other.put) (end.taken ++ other.taken) in
    let gone = knows 0 [] [] in
    let joined = set ends at both in
    record {
      shares = omega (arith, sum_set shares_of ends at end both here, sum_set shares_of joined at' other gone here', kept.shares);
      weighs = λ weight. omega (
        arith,
        sum_set (put_by weight) ends at end both here,
        sum_set (taken_by weight) ends at end both here,
        sum_set (put_by weight) joined at' other gone here',
        sum_set (taken_by weight) joined at' other gone here',
        sum_by-append weight end.put other.put,
        sum_by-append weight end.taken other.taken,
        kept.weighs weight,
      );
      spent = spent_set joined at' gone (λ _. (refl, refl)) (spent_set ends at both (has_share both (omega arith)) kept.spent);
      room = kept.room;
    }

-- an intake begins with one end, which has all shares
pub opens : IsConserved [] (knows 17 [] [] ∷ [])
opens = record {
  shares = refl;
  weighs = λ weight. refl;
  spent = spent_snoc [] (knows 17 [] []) (has_share (knows 17 [] []) (omega arith)) none_spent;
  room = omega arith;
}

-- what is left inside has room for 64
pub at_most_64_left : (end : Known) (inside : List Order) → IsTold end inside → end.shares ≡ 17
    → length end.put ≤ length end.taken + 64
at_most_64_left end inside told all =
    omega (arith, how_many end.put, how_many end.taken, how_many inside, told.whole all each, told.room)

-- If nothing is inside any more, what was put is what was taken before and what was taken out.
pub all_out : (end : Known) (put taken out : List Order) → end ≡ knows 17 put (taken ++ out)
    → (inside : List Order) → length inside ≡ 0 → IsTold end inside
    → (weight : Weight) → sum_by weight put ≡ sum_by weight taken + sum_by weight out
all_out end put taken out is [] none told weight = omega (
  arith,
  told.whole (ap shares_of is) weight,
  ap (put_by weight) is,
  ap (taken_by weight) is,
  sum_by-append weight taken out,
)
all_out end put taken out is (x ∷ inside) none told weight = absurd (omega arith)

-- an end with all shares, before anything is taken out
pub before_any_out : (end : Known) (out : List Order) → end.shares ≡ 17 → out ≡ [] → end ≡ knows 17 end.put (end.taken ++ out)
before_any_out end out all none =
    let same : end.taken ≡ end.taken ++ out = sym (ap (λ l. end.taken ++ l) none ∙ append-nil end.taken) in
    λ i. knows (all i) end.put (same i)

-- the end that puts, once it gave one share more away
pub gave_one_more : {X : Type 0} (end : Known) (given now : List X) (x : X) → end ≡ knows (17 - length given) [] []
    → length now ≡ length (given ++ x ∷ []) → knows (end.shares - 1) end.put end.taken ≡ knows (17 - length now) [] []
gave_one_more end given now x is longer =
    let shares : end.shares - 1 ≡ 17 - length now = omega (arith, ap shares_of is, longer, length-append given (x ∷ [])) in
    λ i. knows (shares i) (is i).put (is i).taken
