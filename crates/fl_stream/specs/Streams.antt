-- What a stream of lines has written, and what it still has to write.
use Rattle.std.specs.Prelude.{◌≡◌, ℕ, Bool, true, false, List, [], ◌++◌, Option, Some, None, ⊤}
use Rattle.std.specs.Io.KnownBytes.{Appends}
use mathlib.Core.List.{IsPrefix}
use Rattle.fl_history.specs.declared.history.Line.{Line}
use Rattle.fl_stream.specs.declared.manner.WhenWriterFails.{WhenWriterFails}
use Rattle.fl_stream.specs.declared.manner.WhenWriterFails.TheVariants.{GoOn}
use Rattle.fl_trace.specs.Text.{text_of}

-- a writer that says what it holds has these bytes and no others
abbrev pub IsAs : Option (List ℕ) → List ℕ → Type 0
IsAs None bytes = ⊤
IsAs (Some xs) bytes = xs ≡ bytes

-- a writer that says what it holds has nothing yet
abbrev pub IsBlank : Option (List ℕ) → Type 0
IsBlank held = IsAs held []

-- A writer had the front of these bytes at first, the rest was written behind it, and nothing else. `contents` is what
-- a writer of this type says that it holds. Of one that never says it, nothing is claimed.
pub record Wrote {W : Type 0} (contents : W → Option (List ℕ)) (held : Option (List ℕ)) (bytes : List ℕ)
    : Type 0 where
  pub first : W
  pub front : List ℕ
  pub more : List ℕ
  pub is_as : IsAs (contents first) front
  pub appended : Appends (contents first) held more
  pub parts : front ++ more ≡ bytes

-- these bytes were written, or a prefix of them
pub record WroteSome (bytes : List ℕ) (held held_now : Option (List ℕ)) : Type 0 where
  pub sent : List ℕ
  pub rest : List ℕ
  pub written : Appends held held_now sent
  pub parts : sent ++ rest ≡ bytes

-- the writer has the text of these lines, with or without more behind it
pub record HoldsText {W : Type 0} (contents : W → Option (List ℕ)) (held : Option (List ℕ)) (lines : List Line)
    : Type 0 where
  pub rest : List ℕ
  pub wrote : Wrote contents held (text_of lines ++ rest)

-- all lines so far, those at their front that were noted as written, what the writer holds, the text that waits for it,
-- for how many more lines there is room, whether the stream is broken, and what it does when a write fails
pub record Stream : Type 0 where
  pub lines : List Line
  pub noted : List Line
  pub held : Option (List ℕ)
  pub unsent : List ℕ
  pub room : ℕ
  pub broken : Bool
  pub manner : WhenWriterFails

-- The lines that are stored, by the manner, of all lines and of those that were noted as written. A stream that goes on
-- without its writer stores them for nobody.
abbrev pub stored_by : WhenWriterFails → List Line → List Line → List Line
stored_by GoOn lines noted = lines
stored_by manner lines noted = noted

-- The writer has the text of a beginning of the lines, which may end within a line. `HoldsText` says which lines it has
-- at least, as those that it had at first.
pub record IsBegun {W : Type 0} (contents : W → Option (List ℕ)) (held : Option (List ℕ)) (lines : List Line)
    : Type 0 where
  pub sent : List ℕ
  pub rest : List ℕ
  pub wrote : Wrote contents held sent
  pub parts : sent ++ rest ≡ text_of lines

-- What was sent, what waits and what is lost are together the text of all lines. Something is lost only if the
-- stream is broken, and then nothing waits. Only a stream that goes on without its writer breaks. The writer has the
-- text of the noted lines, which begin all lines.
pub record IsStreamed {W : Type 0} (contents : W → Option (List ℕ)) (held : Option (List ℕ)) (unsent : List ℕ)
    (broken : Bool) (manner : WhenWriterFails) (lines noted : List Line) : Type 0 where
  pub sent : List ℕ
  pub lost : List ℕ
  pub wrote : Wrote contents held sent
  pub parts : sent ++ (unsent ++ lost) ≡ text_of lines
  pub whole : broken ≡ false → lost ≡ []
  pub over : broken ≡ true → unsent ≡ []
  pub breaks : broken ≡ true → manner ≡ GoOn
  pub there : HoldsText contents held noted
  pub front : IsPrefix noted lines
