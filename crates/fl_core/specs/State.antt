-- The state of the lock directory, as recorded lines give it, and what contracts see of it.
use Rattle.std.specs.Prelude.{List, []}
use Rattle.fl_marks.specs.Marking.{Marking}
use Rattle.fl_marks.specs.Change.{Change, marking_after}
use Rattle.fl_dir.specs.Directory.{Listing, opening_listing}
use Rattle.fl_waiting.specs.declared.parked.Request.{Request}
use Rattle.fl_waiting.specs.declared.rules.Rules.{Rules}

-- all but the locks: the directory, and the parked requests in the order of asking
pub record View : Type 0 where
  pub directory : Listing
  pub parked : List Request

-- the rules by which requests wait, all but the locks, and the changes of locks with the last one first
pub record State : Type 0 where
  pub rules : Rules
  pub view : View
  pub changes : List Change

-- nothing is there yet, under these rules
abbrev pub opening : Rules → State
opening rules = record {
  rules = rules;
  view = record { directory = opening_listing rules.files rules.open_files; parked = [] };
  changes = [];
}

-- what contracts see: the marking in the place of the changes
pub record Snapshot : Type 0 where
  pub rules : Rules
  pub view : View
  pub marking : Marking

-- what a state shows
abbrev pub snapshot_of : State → Snapshot
snapshot_of s = record { rules = s.rules; view = s.view; marking = marking_after s.changes }
