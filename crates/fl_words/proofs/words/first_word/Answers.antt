use Rattle.std.proofs.Common.{◌≡◌, ℕ, ◌<◌, Option, None, Some, List, ◌∷◌, ◌++◌, length, get_or, sym, ◌∙◌, ap, arith}
use Rattle.std.proofs.Common.{length-append, append-nil}
use Rattle.std.proofs.Math.Seq.{get_or-append_seam}
use Rattle.std.specs.Str.Iter.{LacksByte}
use Rattle.fl_words.specs.Words.{behind}
use Rattle.fl_words.proofs.words.first_word.Goals as goal

-- a word is no text with a space in it
no_seam : (word first rest : List ℕ) → LacksByte 32 word → word ≡ first ++ 32 ∷ rest → ⊥
no_seam word first rest lacks e =
    let within : length first < length word = rw e (omega (arith, length-append first (32 ∷ rest))) in
    lacks (length first) within (ap (λ text. get_or text (length first) 0) e ∙ get_or-append_seam first 32 rest 0)

-- what is cut at a space has fields behind its word
cut_there : (text word first rest : List ℕ) (fields : Option (List ℕ)) → LacksByte 32 word → text ≡ word ++ behind fields → text ≡ first ++ 32 ∷ rest
    → ((more : List ℕ) → text ≡ word ++ 32 ∷ more → (first ≡ word) × (rest ≡ more)) → (first ≡ word) × (Some rest ≡ fields)
cut_there text word first rest None lacks e parts only = absurd (no_seam word first rest lacks (sym (append-nil word) ∙ sym e ∙ parts))
cut_there text word first rest (Some more) lacks e parts only = let same = only more e in (same.0, ap Some same.1)

pub returns-in-Some-clause-only : goal.returns-in-Some-clause-only
returns-in-Some-clause-only c = λ word fields lacks e.
    cut_there c.args.text.now word c.in-Some.word.now c.in-Some.rest.now fields lacks e c.in-Some.ensures.parts
    (λ more also. c.in-Some.ensures.only word more lacks also)
