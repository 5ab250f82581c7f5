-- What each end knows, and how that fits to what is inside.
use Rattle.std.specs.Prelude.{◌≡◌, ℕ, ◌+◌, ◌<◌, ◌≤◌, List, [], ◌∷◌, ◌++◌, length, sum_by}
use mathlib.Core.Option.{some}
use lib.ListN.{get_elem?}
use Rattle.fl_order.specs.declared.order.Order.{Order}
use Rattle.fl_intake.specs.declared.rule.Known.{Known}
use Rattle.fl_intake.specs.Often.{Weight}

-- So many shares, and these orders put and taken.
abbrev pub knows : ℕ → List Order → List Order → Known
knows shares put taken = record { shares = shares; put = put; taken = taken }

-- An end without a share put nothing and took nothing.
abbrev pub AreSpent : List Known → Type 0
AreSpent ends =
    (at : ℕ) (end : Known) → get_elem? ends at ≡ some end → end.shares ≡ 0 → (end.put ≡ []) × (end.taken ≡ [])

-- Whatever weight orders are given, those that were put weigh as much as those that were taken and those inside. All
-- ends together have 17 shares, and at most 64 orders are inside.
pub record IsConserved (inside : List Order) (ends : List Known) : Type 0 where
  pub shares : sum_by (λ end. end.shares) ends ≡ 17
  pub weighs : (weight : Weight) → sum_by (λ end. sum_by weight end.put) ends
      ≡ sum_by (λ end. sum_by weight end.taken) ends + sum_by weight inside
  pub spent : AreSpent ends
  pub room : length inside ≤ 64

-- What an end is told of what is inside. With all shares it is told of each order that was put.
pub record IsTold (end : Known) (inside : List Order) : Type 0 where
  pub shares : end.shares ≤ 17
  pub room : length inside ≤ 64
  pub whole : end.shares ≡ 17 → (weight : Weight)
      → sum_by weight end.put ≡ sum_by weight end.taken + sum_by weight inside

-- An end has taken one order more. With all shares it knows that there was one that was put and not taken.
pub record HasTaken (old : Known) (order : Order) (new : Known) : Type 0 where
  pub one_more : new ≡ knows old.shares old.put (old.taken ++ order ∷ [])
  pub left : old.shares ≡ 17 → length old.taken < length old.put
