-- A number that is said in place of another.
use Rattle.std.specs.Prelude.{◌≡◌, ℕ, Option, None, Some}

-- the number is the one that is said, if that is allowed, and the other one if none is
abbrev pub IsOver : (ℕ → Type 0) → Option ℕ → ℕ → ℕ → Type 0
IsOver Allows None other number = number ≡ other
IsOver Allows (Some said) other number = Allows said → number ≡ said
