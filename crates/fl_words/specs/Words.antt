-- The words of a line of text, and what stands between them.
use Rattle.std.specs.Prelude.{◌≡◌, ◌≢◌, ℕ, ◌≤◌, ◌&&◌, nat_le, Bool, true, if◌then◌else◌, IsTrue}
use Rattle.std.specs.Prelude.{Option, Some, None, List, [], ◌∷◌, length, slice_index, codes}
use Rattle.std.specs.List.{join_with_byte}
use Rattle.hex.specs.Hex.{encode_lower}

-- words with one space between them
abbrev pub spaced : List (List ℕ) → List ℕ
spaced words = join_with_byte 32 words

-- a yes or no, as 1 or 0
abbrev pub flag_text : Bool → List ℕ
flag_text flag = if flag then codes "1" else codes "0"

-- a name in lower case hex, or a dash for the empty one
abbrev pub name_text : List ℕ → List ℕ
name_text [] = codes "-"
name_text (b ∷ bytes) = encode_lower (b ∷ bytes)

-- what stands behind a word: a space and the fields, or nothing if there are none
abbrev pub behind : Option (List ℕ) → List ℕ
behind None = []
behind (Some fields) = 32 ∷ fields

-- no plus (43) stands in front, and no zero (48) but the number 0 itself
pub record IsPlain (word : List ℕ) : Type 0 where
  pub no_plus : slice_index word 0 ≢ 43
  pub no_zero : slice_index word 0 ≡ 48 → length word ≤ 1

-- whether these are visible ASCII characters alone, so that there is no space and no newline among them
abbrev pub are_visible : List ℕ → Bool
are_visible [] = true
are_visible (b ∷ bs) = (nat_le 33 b && nat_le b 126) && are_visible bs

-- a word of visible characters
abbrev pub IsVisible : List ℕ → Type 0
IsVisible word = IsTrue (are_visible word)
