-- The locks of a table, set one after another.
use Rattle.std.specs.Prelude.{◌≡◌, ℕ, ◌≤◌, true, false, Some, List, ◌∷◌, ◌++◌, length}
use Rattle.std.specs.List.{fold}
use Rattle.std.specs.FinMap.{empty, get}
use Rattle.fl_marks.specs.Bytes.{is_range}
use Rattle.fl_marks.specs.Conflict.{conflicts, IsLawful}
use Rattle.fl_marks.specs.Marking.{Marking, Spot, Stroke, stroked}
use Rattle.fl_marks.specs.Runs.{runs}
use Rattle.fl_marks.specs.declared.lock.Mark.{Mark}
use Rattle.fl_marks.specs.declared.run.Run.{Run}

-- a run means the stroke that would set it
abbrev pub meant : Run → Stroke
meant r = record { key = r.key; start = r.start; end = r.end; mark = Some r.mark }

-- the marking once all runs are set, one after another
abbrev pub set_all : List Run → Marking → Marking
set_all rs m = fold (λ m r. stroked (meant r) m) m rs

-- one of the runs has the spot, and this mark
pub record IsOfRun (rs : List Run) (spot : Spot) (mark : Mark) : Type 0 where
  pub front : List Run
  pub run : Run
  pub rest : List Run
  pub among : rs ≡ front ++ run ∷ rest
  pub key_is : run.key ≡ spot.0
  pub from : run.start ≤ spot.1
  pub upto : spot.1 ≤ run.end
  pub mark_is : run.mark ≡ mark

-- These are the runs of a marking, each once: there are as many, each byte of each has its mark, and no other has one.
-- Set one after another they give the marking, and there is room for each. If it is lawful, none conflicts with those
-- before it.
pub record CanBeSet (limit : ℕ) (m : Marking) (rs : List Run) : Type 0 where
  pub marking : set_all rs empty ≡ m
  pub once : length rs ≡ runs m
  pub own : (front rest : List Run) (r : Run) (byte : ℕ) → rs ≡ front ++ r ∷ rest → r.start ≤ byte → byte ≤ r.end
      → get m (r.key, byte) ≡ Some r.mark
  pub all : (spot : Spot) (mark : Mark) → get m spot ≡ Some mark → IsOfRun rs spot mark
  pub ranges : (front rest : List Run) (r : Run) → rs ≡ front ++ r ∷ rest → is_range r.start r.end ≡ true
  pub room : (front rest : List Run) (r : Run) → rs ≡ front ++ r ∷ rest
      → runs (stroked (meant r) (set_all front empty)) ≤ limit
  pub free : IsLawful m → (front rest : List Run) (r : Run) → rs ≡ front ++ r ∷ rest
      → conflicts (set_all front empty) r.key r.start r.end r.mark.kind ≡ false
