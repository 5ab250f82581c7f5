-- What is known of a trace while its lines are heard.
use Rattle.std.specs.Prelude.{◌≡◌, ◌≢◌, ℕ, ◌+◌, ◌^◌, ◌≤◌, ◌⊎◌, Bool, true, false, List, [], ◌∷◌, ◌++◌, length, take}
use Rattle.std.specs.Prelude.{Option, Some, None, Result, Ok, Err}
use Rattle.std.specs.Io.KnownBytes.{Consumes}
use Rattle.fl_audit.specs.Audit.{has_newline, judged_part}
use Rattle.fl_audit.specs.First.{AreFirstLines, IsWithin}
use Rattle.fl_audit.specs.declared.lines.Stopped.{Stopped}
use Rattle.fl_audit.specs.declared.lines.Stopped.TheVariants.{Enough, BadLine}
use Rattle.fl_audit.specs.declared.listener.Listener.{Listener}
use Rattle.fl_history.specs.declared.history.Line.{Line}
use Rattle.fl_trace.specs.Text.{line_text, text_of, LineFits, Fits, BreaksAt}

-- A judge that had heard lines heard more: those that a text begins with. So many bytes are left, with no newline.
pub record HearsAll (before after : List Line) (text : List ℕ) (left : ℕ) : Type 0 where
  pub heard : List Line
  pub rest : List ℕ
  pub fits : Fits heard
  pub are : after ≡ before ++ heard
  pub parts : text ≡ text_of heard ++ rest
  pub long : left ≡ length rest
  pub lacks : has_newline rest ≡ false

-- So many lines are before the text. Some lines begin it, and one that ends with a newline and is no spelling stands
-- behind them: it is line n.
pub record IsBadBehind (before : ℕ) (text : List ℕ) (n : ℕ) : Type 0 where
  pub front : List Line
  pub bad : List ℕ
  pub after : List ℕ
  pub fits : Fits front
  pub parts : text ≡ text_of front ++ (bad ++ 10 ∷ after)
  pub lacks : has_newline bad ≡ false
  pub wrong : (line : Line) → LineFits line → line_text line ≢ bad
  pub number : n ≡ before + length front + 1

-- It heard some of the lines that a text begins with, and so as many in all as are wanted.
pub record HearsEnough (most : Option ℕ) (before after : List Line) (text : List ℕ) : Type 0 where
  pub heard : List Line
  pub rest : List ℕ
  pub fits : Fits heard
  pub are : after ≡ before ++ heard
  pub parts : text ≡ text_of heard ++ rest
  pub many : most ≡ Some (length after)

-- why no more of a text is heard
abbrev pub Stops : Option ℕ → List Line → List Line → List ℕ → Stopped → Type 0
Stops most before after text Enough = HearsEnough most before after text
Stops most before after text (BadLine n) = IsBadBehind (length before) text n × IsWithin most n

-- what a judge heard of a text, and what is left
abbrev pub IsHeard : Option ℕ → List Line → List Line → List ℕ → Result ℕ Stopped → Type 0
IsHeard most before after text (Ok n) = HearsAll before after text n
IsHeard most before after text (Err stopped) = Stops most before after text stopped

-- A text is these lines, and a rest with no newline. Of the rest these bytes are kept: all of it, or more than any
-- line has.
pub record Follows (text : List ℕ) (lines : List Line) (kept : List ℕ) : Type 0 where
  pub fits : Fits lines
  pub more : List ℕ
  pub parts : text ≡ text_of lines ++ (kept ++ more)
  pub lacks : has_newline (kept ++ more) ≡ false
  pub whole : (more ≡ []) ⊎ (700 ≤ length kept)

-- what is known of the text so far, while it is heard and once it isn't any more
abbrev pub Stands : Option ℕ → List ℕ → List Line → List ℕ → Option Stopped → Type 0
Stands most text lines kept None = Follows text lines kept
Stands most text lines kept (Some stopped) = Stops most [] lines text stopped

-- a listener knows that of the text so far, and until it stopped how many bytes the lines have
pub record Listens (text : List ℕ) (l : Listener) : Type 0 where
  pub stands : Stands l.most text l.judge.lines (take l.kept l.room.items) l.stopped
  pub counts : l.stopped ≡ None → l.bytes ≡ length (text_of l.judge.lines)

-- there is room for a line, and no more lines were heard than are wanted
pub record IsRoomy (l : Listener) : Type 0 where
  pub room : length l.room.items ≡ 2 ^ 16
  pub kept : l.kept ≤ 700
  pub within : IsWithin l.most (length l.judge.lines)

-- these bytes came behind the text so far
abbrev pub HearsOn : Listener → List ℕ → Listener → Type 0
HearsOn before bytes after = (text : List ℕ) → Listens text before → Listens (text ++ bytes) after

-- all that was read since so much was left
pub record HasRead (left now : Option (List ℕ)) (l : Listener) : Type 0 where
  pub text : List ℕ
  pub read : Consumes left now text
  pub listens : Listens text l

-- The lines are the first of a text. If all are wanted, they are what is judged of it, and have so many bytes.
pub record AreJudged (most : Option ℕ) (cut : Bool) (text : List ℕ) (lines : List Line) (bytes : ℕ) : Type 0 where
  pub first : AreFirstLines most text lines
  pub whole : most ≡ None → judged_part cut text ≡ text_of lines
  pub long : most ≡ None → bytes ≡ length (text_of lines)

-- Line n of what is judged of a text is bad. If the text may be cut off, the line is one of those that are wanted.
pub record IsBad (most : Option ℕ) (cut : Bool) (text : List ℕ) (n : ℕ) : Type 0 where
  pub breaks : BreaksAt LineFits (judged_part cut text) n
  pub within : cut ≡ true → IsWithin most n
