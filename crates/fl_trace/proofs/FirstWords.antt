-- A text that no reader of a kind takes is the text of nothing of that kind.
use Rattle.std.proofs.Common.{◌≡◌, ℕ, zero, suc, ◌&&◌, List, [], ◌++◌, ◌∷◌, codes, Result, Ok, Err, refl, arith}
use Rattle.std.proofs.Math.Dec.{leb}
use Rattle.std.proofs.lemmas.Bool.{and_parts, leb-true}
use Rattle.std.specs.Str.Iter.{LacksByte}
use Rattle.fl_order.specs.declared.errno.Errno.{Errno}
use Rattle.fl_order.specs.declared.told.Answer.{Answer}
use Rattle.fl_order.specs.declared.told.Answer.TheVariants.{Done, Entry, Attr, Open, Made, Lock}
use Rattle.fl_order.specs.Errno.{number_of}
use Rattle.std.specs.Fmt.{decimal}
use Rattle.fl_order.specs.declared.state_part.StateLine.{StateLine}
use Rattle.fl_order.specs.Sayable.{FitsState}
use Rattle.fl_history.specs.declared.history.Line.{Line}
use Rattle.fl_history.specs.declared.history.Line.TheVariants.{Asked, Told, State}
use Rattle.fl_words.specs.State.{state_text}
use Rattle.fl_trace.specs.Text.{attr_text, made_text, lock_text, result_text, asked_text, told_text, line_text, LineFits}
use Rattle.fl_words.specs.Words.{are_visible, IsVisible}

-- a word of visible characters has no space
no_space : (word : List ℕ) → IsVisible word → LacksByte 32 word
no_space [] is k at e = omega arith
no_space (b ∷ bs) is zero at e =
    let low = leb-true 33 b (and_parts (leb 33 b) (leb b 126) (and_parts (leb 33 b && leb b 126) (are_visible bs) is).0).0 in
    omega arith
no_space (b ∷ bs) is (suc k) at e = no_space bs (and_parts (leb 33 b && leb b 126) (are_visible bs) is).1 k (omega arith) e

-- the first word of a text is w, if it has one
abbrev pub Begins : List ℕ → List ℕ → Type 0
Begins text w = (word rest : List ℕ) → LacksByte 32 word → text ≡ word ++ 32 ∷ rest → w ≡ word

pub no_result : (text first : List ℕ) → (text ≡ codes "ok" → ⊥) → Begins text first → (first ≡ codes "entry" → ⊥) → (first ≡ codes "attr" → ⊥)
    → (first ≡ codes "open" → ⊥) → (first ≡ codes "made" → ⊥)
    → (first ≡ codes "lock" → ⊥) → (first ≡ codes "err" → ⊥) → (told : Result Answer Errno) → text ≡ result_text told → ⊥
no_result text first ok begins entry attr opens made lock err (Ok Done) e = ok e
no_result text first ok begins entry attr opens made lock err (Ok (Entry a)) e =
    entry (begins (codes "entry") (attr_text a) (no_space (codes "entry") refl) e)
no_result text first ok begins entry attr opens made lock err (Ok (Attr a)) e =
    attr (begins (codes "attr") (attr_text a) (no_space (codes "attr") refl) e)
no_result text first ok begins entry attr opens made lock err (Ok (Open fh)) e =
    opens (begins (codes "open") (decimal fh) (no_space (codes "open") refl) e)
no_result text first ok begins entry attr opens made lock err (Ok (Made a fh)) e =
    made (begins (codes "made") (made_text a fh) (no_space (codes "made") refl) e)
no_result text first ok begins entry attr opens made lock err (Ok (Lock start end kind pid)) e =
    lock (begins (codes "lock") (lock_text start end kind pid) (no_space (codes "lock") refl) e)
no_result text first ok begins entry attr opens made lock err (Err error) e =
    err (begins (codes "err") (decimal (number_of error)) (no_space (codes "err") refl) e)

pub no_line : (text first : List ℕ) → Begins text first → (first ≡ codes "ask" → ⊥) → (first ≡ codes "tell" → ⊥)
    → ((line : StateLine) → FitsState line → text ≡ state_text line → ⊥) → (line : Line) → LineFits line → text ≡ line_text line → ⊥
no_line text first begins ask tell head (Asked worker order) fits e =
    ask (begins (codes "ask") (asked_text worker order) (no_space (codes "ask") refl) e)
no_line text first begins ask tell head (Told told) fits e =
    tell (begins (codes "tell") (told_text told) (no_space (codes "tell") refl) e)
no_line text first begins ask tell head (State line) fits e = head line fits e
