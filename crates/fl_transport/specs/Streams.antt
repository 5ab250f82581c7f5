-- What a session has to do with.
use Rattle.std.specs.Prelude.{ℕ, List, Option}

-- what a session's reader and its writer had before it and have now
pub record Streams : Type 0 where
  pub left : Option (List ℕ)
  pub left_now : Option (List ℕ)
  pub held : Option (List ℕ)
  pub held_now : Option (List ℕ)
