use Rattle.std.proofs.Common.{◌≡◌, ℕ, Bool, true, false, min, max, nat_le, refl, sym, ◌∙◌, subst, arith}
use Rattle.std.proofs.lemmas.Bool.Decides.{nat_tests}
use Rattle.std.specs.Int.{IsPowerOfTwo}
use Rattle.fl_dir.proofs.numbered.chains_for.Goals as goal

clamped : (n : ℕ) → IsPowerOfTwo n → IsPowerOfTwo (max 256 (min n 65536))
clamped n power = go (nat_le n 256) (nat_le n 65536) refl refl
  where
    few : nat_le n 256 ≡ true → max 256 (min n 65536) ≡ 256
    few p = grind (arith, nat_tests)

    some : nat_le n 256 ≡ false → nat_le n 65536 ≡ true → max 256 (min n 65536) ≡ n
    some p q = grind (arith, nat_tests)

    many : nat_le n 65536 ≡ false → max 256 (min n 65536) ≡ 65536
    many q = grind (arith, nat_tests)

    go : (a b : Bool) → nat_le n 256 ≡ a → nat_le n 65536 ≡ b → IsPowerOfTwo (max 256 (min n 65536))
    go true b p q = (8, few p)
    go false true p q = (power.0, some p q ∙ power.1)
    go false false p q = (16, many q)

pub returns-clause-power : goal.returns-clause-power
returns-clause-power c =
    subst IsPowerOfTwo (sym c.clamp.ensures) (clamped c.next_power_of_two.result c.next_power_of_two.ensures.power)
