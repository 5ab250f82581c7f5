-- Which bytes are locked, by whom and how: a mark on each byte (POSIX.1-2017 `fcntl`, record locks; Linux `flock(2)`).
use Rattle.std.specs.Prelude.{ℕ, zero, suc, ◌+◌, ◌-◌, Bool, ◌&&◌, nat_le, Option, Some, None, List, [], ◌∷◌}
use Rattle.std.specs.Prelude.{if◌then◌else◌}
use Rattle.std.specs.Ordering.{nat_cmp, ordering_then, eq_by_cmp}
use Rattle.std.specs.declared.cmp.Ordering.{Ordering}
use Rattle.std.specs.FinMap.{FinMap, empty, insert, remove}
use Rattle.fl_marks.specs.declared.lock.Class.{Class}
use Rattle.fl_marks.specs.declared.lock.Class.TheVariants.{Record, Flock}
use Rattle.fl_marks.specs.declared.lock.Key.{Key}
use Rattle.fl_marks.specs.declared.lock.Mark.{Mark}
use Rattle.fl_marks.specs.declared.lock.Range.{Range}

-- record locks stand before whole-file locks
abbrev pub class_number : Class → ℕ
class_number Record = 0
class_number Flock = 1

-- keys by class, then node, then owner
abbrev pub key_cmp : Key → Key → Ordering
key_cmp a b =
    ordering_then (nat_cmp (class_number a.class) (class_number b.class))
    (ordering_then (nat_cmp a.node b.node) (nat_cmp a.owner b.owner))

-- a byte of a key
abbrev pub Spot : Type 0
Spot = Key × ℕ

-- spots by key, then byte
abbrev pub spot_cmp : Spot → Spot → Ordering
spot_cmp a b = ordering_then (key_cmp a.0 b.0) (nat_cmp a.1 b.1)

-- each spot that is locked, with its mark
abbrev pub Marking : Type 0
Marking = FinMap spot_cmp Mark

-- one change of locks: the bytes from start to end of the key get the mark, or lose theirs
pub record Stroke : Type 0 where
  pub key : Key
  pub start : ℕ
  pub end : ℕ
  pub mark : Option Mark

-- the change of a key's locks on a range of bytes
abbrev pub stroke_on : Key → Range → Option Mark → Stroke
stroke_on key range mark = record { key = key; start = range.start; end = range.end; mark = mark }

-- one spot gets the mark, or loses its own
abbrev pub mark_spot : Spot → Option Mark → Marking → Marking
mark_spot spot None m = remove m spot
mark_spot spot (Some mark) m = insert m spot mark

-- so many bytes of the key, from the first on, one after another
unfoldable pub mark_bytes : Key → Option Mark → ℕ → ℕ → Marking → Marking
mark_bytes key mark first zero m = m
mark_bytes key mark first (suc count) m = mark_spot (key, first + count) mark (mark_bytes key mark first count m)

-- the marking that a stroke leaves: a new lock replaces the owner's old one on the bytes that it covers
abbrev pub stroked : Stroke → Marking → Marking
stroked s m = mark_bytes s.key s.mark s.start (s.end + 1 - s.start) m

-- the marking after strokes, of which the first in the list is the last in time
abbrev pub marking_of : List Stroke → Marking
marking_of [] = empty
marking_of (s ∷ earlier) = stroked s (marking_of earlier)

-- the spot is of the stroke's key, and in its range
abbrev pub covers : Stroke → Spot → Bool
covers s spot = eq_by_cmp key_cmp s.key spot.0 && (nat_le s.start spot.1 && nat_le spot.1 s.end)

-- what the last stroke says that covers the spot, and nothing if none does
abbrev pub mark_at : List Stroke → Spot → Option Mark
mark_at [] spot = None
mark_at (s ∷ earlier) spot = if covers s spot then s.mark else mark_at earlier spot
