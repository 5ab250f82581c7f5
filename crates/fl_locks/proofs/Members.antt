-- Members of an object that were written piece by piece.
use Rattle.std.proofs.Common.{◌≡◌, ℕ, List, [], ◌∷◌, ◌++◌, codes, append_assoc, ap, ◌∙◌, sym}
use Rattle.fl_locks.specs.Json.{quoted, member, object}

-- the words of a lock, and what follows
pub words_written : (class kind rest : List ℕ)
    → codes "\"type\":\"" ++ (class ++ (codes "\",\"mode\":\"" ++ (kind ++ (34 ∷ rest))))
    ≡ member (codes "type") (quoted class) ++ 44 ∷ (member (codes "mode") (quoted kind) ++ rest)
words_written class kind rest =
    ap (λ text. codes "\"type\":\"" ++ (class ++ (codes "\",\"mode\":\"" ++ text))) (sym (append_assoc kind (34 ∷ []) rest))
    ∙ ap (λ text. codes "\"type\":\"" ++ text) (sym (append_assoc class (34 ∷ []) (44 ∷ (member (codes "mode") (quoted kind) ++ rest))))

-- five pieces that were written behind a text
pub five_pieces : (text a b c d e : List ℕ) → ((((text ++ a) ++ b) ++ c) ++ d) ++ e ≡ text ++ (a ++ (b ++ (c ++ (d ++ e))))
five_pieces text a b c d e = simp append_assoc

-- an object of four members that were written piece by piece
pub object_written : (text a b c d : List ℕ)
    → ((((((((text ++ 123 ∷ []) ++ a) ++ 44 ∷ []) ++ b) ++ 44 ∷ []) ++ c) ++ 44 ∷ []) ++ d) ++ 125 ∷ [] ≡ text ++ object (a ∷ b ∷ c ∷ d ∷ [])
object_written text a b c d = simp append_assoc
