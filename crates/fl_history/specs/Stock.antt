-- A list that is kept, and the room for more.
use Rattle.std.specs.Prelude.{ℕ, List}

-- what is kept, and for how much more memory is there
pub record Stock (A : Type 0) : Type 0 where
  pub items : List A
  pub room : ℕ
