-- The first lines of a trace that is read to its end.
use Rattle.std.specs.Prelude.{◌≡◌, ℕ, ◌≤◌, ◌⊎◌, false, Option, Some, IfSome, List, ◌++◌, length}
use Rattle.fl_history.specs.declared.history.Line.{Line}
use Rattle.fl_audit.specs.Audit.{has_newline}
use Rattle.fl_trace.specs.Text.{text_of, Fits}

-- so many lines are at most those that are wanted, if not all are
abbrev pub IsWithin : Option ℕ → ℕ → Type 0
IsWithin most n = IfSome most (λ m. n ≤ m)

-- A text begins with these lines, which are as many as are wanted, or fewer. If they are fewer, no newline follows
-- them.
pub record AreFirstLines (most : Option ℕ) (text : List ℕ) (lines : List Line) : Type 0 where
  pub rest : List ℕ
  pub parts : text ≡ text_of lines ++ rest
  pub fits : Fits lines
  pub few : IsWithin most (length lines)
  pub all : (most ≡ Some (length lines)) ⊎ (has_newline rest ≡ false)

-- A text is that of these lines, and a rest with no newline. The lines have so many bytes, with their newlines.
pub record AreWholeLines (text : List ℕ) (lines : List Line) (bytes : ℕ) : Type 0 where
  pub rest : List ℕ
  pub parts : text ≡ text_of lines ++ rest
  pub fits : Fits lines
  pub lacks : has_newline rest ≡ false
  pub long : bytes ≡ length (text_of lines)

-- this is so of a text, which is all that was left to read
pub record IsSoOfAll (left : Option (List ℕ)) (IsSo : List ℕ → Type 0) : Type 0 where
  pub text : List ℕ
  pub read : IfSome left (λ bytes. bytes ≡ text)
  pub is : IsSo text
