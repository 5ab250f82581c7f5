-- What a desk keeps.
use Rattle.std.specs.Prelude.{◌≡◌, ℕ, List, []}
use Rattle.fl_history.specs.declared.history.Line.{Line}
use Rattle.fl_marks.specs.Conflict.{IsLawful}
use Rattle.fl_core.specs.State.{Snapshot, opening, snapshot_of}
use Rattle.fl_desk.specs.Replay.{state_after}
use Rattle.fl_desk.specs.Legal.{IsLegal}
use Rattle.fl_waiting.specs.declared.rules.Rules.{Rules}

-- the history so far, those of its lines that its journal stored, what is there now, and for how many more lines memory
-- is there
pub record Book : Type 0 where
  pub lines : List Line
  pub stored : List Line
  pub present : Snapshot
  pub room : ℕ

-- nothing is recorded under these rules, and no memory is there for it
abbrev pub opening_book : Rules → Book
opening_book rules = record { lines = []; stored = []; present = snapshot_of (opening rules); room = 0 }

-- Under the rules of what is there now, the history is legal; what is there now is what the history alone gives, and no
-- two owners have conflicting locks.
pub record IsKept (lines : List Line) (present : Snapshot) : Type 0 where
  pub legal : IsLegal present.rules lines
  pub stands : present ≡ snapshot_of (state_after present.rules lines)
  pub lawful : IsLawful present.marking
