-- Lines that stand in pieces.
use Rattle.std.specs.Prelude.{List, [], ◌++◌, Option, None, Some, drop, length}
use Rattle.fl_history.specs.declared.history.Line.{Line}
use Rattle.fl_stream.specs.Streams.{Stream}

-- all lines, the stream of the piece at hand, the lines that stand before this piece, those of the head with which it
-- begins, and those of the head that is told for the next one
pub record Pieced : Type 0 where
  pub lines : List Line
  pub here : Stream
  pub before : List Line
  pub head : List Line
  pub draft : List Line

-- the lines of a stream, if there is one
abbrev pub draft_lines : Option Stream → List Line
draft_lines None = []
draft_lines (Some stream) = stream.lines

-- lines of a piece behind its head, behind all lines before it
abbrev pub behind_head : List Line → List Line → List Line → List Line
behind_head before head piece = before ++ drop (length head) piece

-- all lines that are stored
abbrev pub stored_of : Pieced → List Line
stored_of p = behind_head p.before p.head p.here.noted
