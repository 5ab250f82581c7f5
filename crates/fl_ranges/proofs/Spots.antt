-- Tests of keys and spots.
use Rattle.std.proofs.Common.{◌≡◌, ℕ, ◌≤◌, ◌<◌, Bool, true, false, ◌&&◌, nat_le, refl, ap, arith}
use Rattle.std.proofs.lemmas.Bool.Decides.{nat_tests}
use Rattle.std.proofs.lemmas.Nat.{mod_below}
use Rattle.std.specs.Ordering.{eq_by_cmp, is_eq}
use Rattle.std.specs.Cmp.{tied_itself, Equal-is}
use Rattle.fl_marks.specs.declared.lock.Key.{Key}
use Rattle.fl_marks.specs.Marking.{key_cmp, Spot, spot_cmp}
use Rattle.fl_ranges.specs.Placing.{home}
use Rattle.fl_ranges.proofs.Markings.{exact_keys, keys_total, exact_spots, spots_total}

-- keys that are found equal are equal
pub same_key : (a b : Key) → eq_by_cmp key_cmp a b ≡ true → a ≡ b
same_key a b e = exact_keys a b ((Equal-is (key_cmp a b)).0 e)

pub key_itself : (a : Key) → eq_by_cmp key_cmp a a ≡ true
key_itself a = ap is_eq (tied_itself keys_total a)

-- and so for spots
pub same_spot : (a b : Spot) → eq_by_cmp spot_cmp a b ≡ true → a ≡ b
same_spot a b e = exact_spots a b ((Equal-is (spot_cmp a b)).0 e)

pub spot_itself : (a : Spot) → eq_by_cmp spot_cmp a a ≡ true
spot_itself a = ap is_eq (tied_itself spots_total a)

-- what a test of a spot tells
pub record IsWithin (k : Bool) (start byte end : ℕ) : Type 0 where
  pub same : k ≡ true
  pub from : start ≤ byte
  pub upto : byte ≤ end

pub within : (k : Bool) (start byte end : ℕ) → (k && (nat_le start byte && nat_le byte end)) ≡ true → IsWithin k start byte end
within true start byte end e = record { same = refl; from = grind (arith, nat_tests); upto = grind (arith, nat_tests) }
within false start byte end e = absurd (cc e)

pub is_within : (k : Bool) (start byte end : ℕ) → k ≡ true → start ≤ byte → byte ≤ end → (k && (nat_le start byte && nat_le byte end)) ≡ true
is_within true start byte end same from upto = grind (arith, nat_tests)
is_within false start byte end same from upto = absurd (cc same)

pub and_and_false : (r c : Bool) → (r && (c && false)) ≡ true → ⊥
and_and_false true true h = absurd (cc h)
and_and_false true false h = absurd (cc h)
and_and_false false c h = absurd (cc h)

-- a node's chain is one of the table's
pub home_less : (chains node : ℕ) → 1 ≤ chains → home chains node < chains
home_less chains node some = mod_below node chains some
