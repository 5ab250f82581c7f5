-- Numbers that stand behind one another.
use Rattle.std.proofs.Common.{◌≡◌, ℕ, ◌<◌, List, [], ◌∷◌, ◌++◌, length, map, ap, arith, append-nil}
use Rattle.std.specs.Fmt.{decimal}
use Rattle.std.specs.List.{flat_map}
use Rattle.fl_words.specs.Words.{spaced}

-- numbers with a space in front of each are words with one space between them, behind a space
pub spread : (ns : List ℕ) → 0 < length ns → flat_map (λ n. 32 ∷ decimal n) ns ≡ 32 ∷ spaced (map decimal ns)
spread [] some = absurd (omega (arith, some))
spread (n ∷ []) some = append-nil (32 ∷ decimal n)
spread (n ∷ m ∷ ns) some = ap (λ text. (32 ∷ decimal n) ++ text) (spread (m ∷ ns) (omega arith))
