-- What came behind what there was, and is counted.
use Rattle.std.specs.Prelude.{◌≡◌, ℕ, ◌+◌, List, ◌++◌, length}
use mathlib.Core.List.{Sublistᴰ}

-- These came, in this order, behind what there was before, and each is counted. Others may stand between them; if the
-- count is that of all, none does.
pub record Grows {A : Type 0} (before now : List A) (count count_now : ℕ) (more : List A) : Type 0 where
  pub counted : count_now ≡ count + length more
  pub among : (some : List A) → Sublistᴰ some before → Sublistᴰ (some ++ more) now
