-- The name of a file as text of printable ASCII.
use Rattle.std.specs.Prelude.{ℕ, ◌/◌, ◌%◌, ◌==◌, ◌&&◌, Bool, false, not, nat_le, if◌then◌else◌, List, [], ◌∷◌, ◌++◌}
use Rattle.std.specs.Prelude.{Option, Some, None, codes}
use Rattle.std.specs.List.{flat_map}
use Rattle.std.specs.Fmt.{digit_glyph}

-- a byte as two lower-case hex digits
abbrev pub hex_byte : ℕ → List ℕ
hex_byte byte = digit_glyph false (byte / 16) ∷ digit_glyph false (byte % 16) ∷ []

-- a byte that stands for itself: printable ASCII, and neither a space nor a backslash (92)
abbrev pub is_plain : ℕ → Bool
is_plain byte = (nat_le 33 byte && nat_le byte 126) && not (byte == 92)

-- a byte of a name: itself, or else `\x` and its two hex digits
abbrev pub byte_text : ℕ → List ℕ
byte_text byte = if is_plain byte then byte ∷ [] else codes "\\x" ++ hex_byte byte

-- the name, byte by byte, or a dash where none is known
abbrev pub name_text : Option (List ℕ) → List ℕ
name_text None = codes "-"
name_text (Some bytes) = flat_map byte_text bytes
