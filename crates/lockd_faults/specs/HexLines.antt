-- Lines: of a text, and of hex.
use Rattle.std.specs.Prelude.{◌≡◌, ℕ, ◌==◌, if◌then◌else◌, List, [], ◌∷◌, ◌++◌}
use Rattle.std.specs.List.{flat_map}
use Rattle.hex.specs.Hex.{encode_lower}

-- one character more of the first line
abbrev pub with_first : ℕ → List (List ℕ) → List (List ℕ)
with_first c [] = (c ∷ []) ∷ []
with_first c (line ∷ lines) = (c ∷ line) ∷ lines

-- the lines of a text, without their newlines (10), and at the end what stands after the last newline
abbrev pub lines_of : List ℕ → List (List ℕ)
lines_of [] = [] ∷ []
lines_of (c ∷ text) = if c == 10 then [] ∷ lines_of text else with_first c (lines_of text)

-- there is always a line, if only what stands after the last newline
pub record HasLine (text : List ℕ) : Type 0 where
  pub line : List ℕ
  pub lines : List (List ℕ)
  pub is : lines_of text ≡ line ∷ lines

-- each of these as one line of lower case hex
abbrev pub hex_lines : List (List ℕ) → List ℕ
hex_lines replies = flat_map (λ reply. encode_lower reply ++ 10 ∷ []) replies
