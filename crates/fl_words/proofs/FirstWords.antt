-- A text that no reader of a line of a head takes is the text of none.
use Rattle.std.proofs.Common.{◌≡◌, ℕ, List, ◌++◌, ◌∷◌, codes, refl, lit<}
use Rattle.std.specs.Str.Iter.{LacksByte}
use Rattle.fl_order.specs.declared.state_part.StateLine.{StateLine}
use Rattle.fl_order.specs.declared.state_part.StateLine.TheVariants as state
use Rattle.fl_order.specs.declared.state_part.StatePart.TheVariants as part
use Rattle.fl_words.specs.State.{head_text, node_text, file_text, run_text, wait_text, state_text}
use Rattle.fl_words.specs.Words.{IsVisible}
use Rattle.fl_words.proofs.Letters.{tested, lacks_low}

-- a word of visible characters has no space
no_space : (word : List ℕ) → IsVisible word → LacksByte 32 word
no_space word is = lacks_low 33 32 word (tested word is) (lit< tt)

-- the first word of a text is w, if it has one
abbrev pub Begins : List ℕ → List ℕ → Type 0
Begins text w = (word rest : List ℕ) → LacksByte 32 word → text ≡ word ++ 32 ∷ rest → w ≡ word

pub no_state : (text first : List ℕ) → (text ≡ codes "go" → ⊥) → Begins text first → (first ≡ codes "state" → ⊥) → (first ≡ codes "node" → ⊥)
    → (first ≡ codes "file" → ⊥) → (first ≡ codes "lock" → ⊥) → (first ≡ codes "wait" → ⊥) → (line : StateLine) → text ≡ state_text line → ⊥
no_state text first go begins head node file lock wait (state.Head h) e =
    head (begins (codes "state") (head_text h) (no_space (codes "state") refl) e)
no_state text first go begins head node file lock wait (state.Part (part.Node number lookups linked mode uid gid name)) e =
    node (begins (codes "node") (node_text number lookups linked mode uid gid name) (no_space (codes "node") refl) e)
no_state text first go begins head node file lock wait (state.Part (part.File fh number)) e =
    file (begins (codes "file") (file_text fh number) (no_space (codes "file") refl) e)
no_state text first go begins head node file lock wait (state.Part (part.Lock number owner start end write pid flock)) e =
    lock (begins (codes "lock") (run_text number owner start end write pid flock) (no_space (codes "lock") refl) e)
no_state text first go begins head node file lock wait (state.Part (part.Wait unique number ask)) e =
    wait (begins (codes "wait") (wait_text unique number ask) (no_space (codes "wait") refl) e)
no_state text first go begins head node file lock wait state.Go e = go e
