-- What a text of hex lines spells.
use Rattle.std.specs.Prelude.{ℕ, ◌+◌, List, [], ◌∷◌, ◌++◌, Result, Ok, Err}
use Rattle.hex.specs.Hex.{decode_of}
use Rattle.hex.specs.declared.error.FromHexError.{FromHexError}
use Rattle.lockd_faults.specs.HexLines.{lines_of}

-- the bytes of line n before those of the lines behind it; the first bad line is the one that counts
abbrev pub joined : ℕ → Result (List ℕ) FromHexError → Result (List ℕ) ℕ → Result (List ℕ) ℕ
joined n (Err e) later = Err n
joined n (Ok bytes) (Ok more) = Ok (bytes ++ more)
joined n (Ok bytes) (Err m) = Err m

-- what stands after the last newline has to be nothing, or it is bad line n
abbrev pub ended : ℕ → List ℕ → Result (List ℕ) ℕ
ended n [] = Ok []
ended n (c ∷ line) = Err n

-- what lines from number n on spell: their bytes, or the number of the first bad line
abbrev pub spelled_from : ℕ → List (List ℕ) → Result (List ℕ) ℕ
spelled_from n [] = Ok []
spelled_from n (line ∷ []) = ended n line
spelled_from n (line ∷ next ∷ lines) = joined n (decode_of line) (spelled_from (n + 1) (next ∷ lines))

-- What a text of hex lines spells: the bytes of its lines, one after another, or the number, from 1, of the first line
-- that is no hex of either case with two digits a byte, or that has no newline.
abbrev pub hex_stream : List ℕ → Result (List ℕ) ℕ
hex_stream text = spelled_from 1 (lines_of text)
