-- Changes of locks, of one key's bytes or of a whole node, one after another.
use Rattle.std.specs.Prelude.{ℕ, ◌==◌, Option, Some, None, List, [], ◌∷◌, if◌then◌else◌}
use Rattle.std.specs.FinMap.{empty}
use Rattle.fl_marks.specs.declared.lock.Mark.{Mark}
use Rattle.fl_marks.specs.Marking.{Spot, Marking, Stroke, stroked, covers}
use Rattle.fl_marks.specs.Runs.{without_node}

-- one change: a stroke, or a node loses all its marks, of both classes and all owners
pub data Change : Type 0 where
  struck : Stroke → Change
  cleared : ℕ → Change

-- the marking that a change leaves
abbrev pub after_change : Change → Marking → Marking
after_change (struck s) m = stroked s m
after_change (cleared node) m = without_node node m

-- the marking that changes leave, of which the first in the list is the last in time
abbrev pub after_changes : List Change → Marking → Marking
after_changes [] m = m
after_changes (c ∷ earlier) m = after_change c (after_changes earlier m)

-- the marking after changes, if no marks were there before
abbrev pub marking_after : List Change → Marking
marking_after changes = after_changes changes empty

-- what a change says of a spot that it covers: a mark, or that there is none
abbrev pub said_by : Change → Spot → Option (Option Mark)
said_by (struck s) spot = if covers s spot then Some s.mark else None
said_by (cleared node) spot = if spot.0.node == node then Some None else None

-- what is said, or else this
abbrev pub said_or : Option (Option Mark) → Option Mark → Option Mark
said_or None before = before
said_or (Some mark) before = mark

-- what the last change says that covers the spot, and nothing if none does
abbrev pub last_said : List Change → Spot → Option Mark
last_said [] spot = None
last_said (c ∷ earlier) spot = said_or (said_by c spot) (last_said earlier spot)
