-- What is written of a number, digit by digit.
use Rattle.std.proofs.Common.{◌^◌, ◌%◌, ◌/◌, ◌∙◌, ◌≡◌, ◌≤◌, ◌<◌, ◌+◌, ◌++◌, ◌∷◌, [], ℕ, length, ap, arith}
use Rattle.std.proofs.Common.{length-append}
use Rattle.std.specs.Fmt.{decimal}
use Rattle.std.proofs.lemmas.Fmt.{decimal_step, decimal_digit}

-- its last digit stands behind those of a tenth of it
pub last_digit : (n : ℕ) → 10 ≤ n → n < 2 ^ 64 → decimal n ≡ decimal (n / 10) ++ (48 + n % 10) ∷ []
last_digit = decimal_step

-- which are one fewer
pub one_fewer : (n : ℕ) → 10 ≤ n → n < 2 ^ 64 → length (decimal n) ≡ length (decimal (n / 10)) + 1
one_fewer n some small = ap length (decimal_step n some small) ∙ length-append (decimal (n / 10)) ((48 + n % 10) ∷ [])

-- a number below ten is one digit
pub one_digit : (n : ℕ) → n < 10 → decimal n ≡ (48 + n % 10) ∷ []
one_digit n small = decimal_digit n small ∙ ap (λ m. (48 + m) ∷ []) (omega arith)
