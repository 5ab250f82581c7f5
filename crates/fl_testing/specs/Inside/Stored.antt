-- What is read off a stored text: its lines that begin with a mark.
use Rattle.std.specs.Prelude.{ℕ, List, [], if◌then◌else◌, length, take, drop}
use Rattle.std.specs.List.{flat_map}
use Rattle.std.specs.Str.{bytes_eq}
use Rattle.std.specs.Str.Lines.{lines}

-- what a line that begins with a mark has behind it; nothing of another line
abbrev pub behind : List ℕ → List ℕ → List ℕ
behind mark line = if bytes_eq (take (length mark) line) mark then drop (length mark) line else []

-- the same of each line of a text, one after another
abbrev pub marked : List ℕ → List ℕ → List ℕ
marked mark text = flat_map (λ line. behind mark line) (lines text)
