-- How many runs of bytes a marking has, which is what a table of locks has room for.
use Rattle.std.specs.Prelude.{◌≡◌, ◌≢◌, ℕ, ◌-◌, Bool, false, not, ◌&&◌, ◌||◌, ◌==◌, Option, Some, None, count_by}
use Rattle.std.specs.FinMap.{entries, get, retain_keys}
use Rattle.fl_marks.specs.declared.lock.Kind.{Kind}
use Rattle.fl_marks.specs.declared.lock.Kind.TheVariants.{Read, Write}
use Rattle.fl_marks.specs.declared.lock.Mark.{Mark}
use Rattle.fl_marks.specs.Marking.{Spot, Marking}

-- read locks stand before write locks
abbrev pub kind_number : Kind → ℕ
kind_number Read = 0
kind_number Write = 1

-- one kind, and one process
abbrev pub is_same_mark : Mark → Mark → Bool
is_same_mark a b = (kind_number a.kind == kind_number b.kind) && (a.pid == b.pid)

-- there is a mark, and it is this one
abbrev pub is_mark : Mark → Option Mark → Bool
is_mark mark None = false
is_mark mark (Some other) = is_same_mark other mark

-- a run starts at a marked spot: its byte is 0, or its key has another mark or none at the byte before
abbrev pub is_start : Marking → (Spot × Mark) → Bool
is_start m e = (e.0.1 == 0) || not (is_mark e.1 (get m (e.0.0, e.0.1 - 1)))

-- how many runs there are: rows of bytes of one key with one mark, each as long as it can be
abbrev pub runs : Marking → ℕ
runs m = count_by (is_start m) (entries m)

-- the same in words: a spot has a mark, and is the first byte or has another mark or none before it
pub record IsStart (m : Marking) (spot : Spot) : Type 0 where
  pub mark : Mark
  pub marked : get m spot ≡ Some mark
  pub first : spot.1 ≢ 0 → get m (spot.0, spot.1 - 1) ≢ Some mark

-- the marking once a node has no marks, of any class and owner
abbrev pub without_node : ℕ → Marking → Marking
without_node node m = retain_keys m (λ spot. not (spot.0.node == node))
