-- Bytes that are put at the end of others.
use Rattle.std.specs.Prelude.{◌≡◌, ℕ, List, ◌++◌}

-- what there is now is what there was, and these bytes behind it
pub record Appends (old : List ℕ) (bytes : List ℕ) (new : List ℕ) : Type 0 where
  pub is : new ≡ old ++ bytes
