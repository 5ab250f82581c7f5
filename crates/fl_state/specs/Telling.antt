-- States that are told by their parts.
use Rattle.std.specs.Prelude.{◌≡◌, ℕ, true, List, [], ◌∷◌, ◌++◌, map}
use Rattle.std.specs.List.{fold}
use Rattle.fl_core.specs.Kept.{IsKept}
use Rattle.fl_core.specs.Restored.{Part, a_node, a_file, a_lock, a_request, begun, told_part, fits}
use Rattle.fl_core.specs.State.{State, Snapshot, snapshot_of}
use Rattle.fl_dir.specs.declared.node.Node.{Node}
use Rattle.fl_marks.specs.Conflict.{IsLawful}
use Rattle.fl_marks.specs.declared.run.Run.{Run}
use Rattle.fl_order.specs.declared.state_part.StatePart.{StatePart}
use Rattle.fl_state.specs.Parts.{part_of}
use Rattle.fl_waiting.specs.Waiting.{AllWait, AreApart}
use Rattle.fl_waiting.specs.declared.parked.Request.{Request}
use Rattle.fl_waiting.specs.declared.rules.Rules.{Rules}

-- the state that parts tell, one after another
abbrev pub told_by : Rules → ℕ → ℕ → List Part → State
told_by rules node fh parts = fold (λ s part. told_part part s) (begun rules node fh) parts

-- each part fits what those before it tell
pub data AreTold (rules : Rules) (node fh : ℕ) : List Part → Type 0 where
  none : AreTold rules node fh []
  one : (before : List Part) (part : Part) {parts : List Part} → AreTold rules node fh before
      → fits (snapshot_of (told_by rules node fh before)) part ≡ true → parts ≡ before ++ part ∷ []
      → AreTold rules node fh parts

-- what is so of a state that parts tell
pub record IsFit (p : Snapshot) : Type 0 where
  pub waiting : AllWait p.rules p.marking p.view.parked
  pub apart : AreApart p.view.parked
  pub lawful : IsLawful p.marking

-- nodes, open files, locks and requests, in this order
abbrev pub parts_of : List (ℕ × Node) → List (ℕ × ℕ) → List Run → List Request → List Part
parts_of nodes files runs requests =
    ((map (λ e. a_node e.0 e.1) nodes ++ map (λ e. a_file e.0 e.1) files) ++ map a_lock runs) ++ map a_request requests

-- what is told more tells exactly what is there, in the order of kinds, and each part fits those before it
pub record Tells (p : Snapshot) (before after : List StatePart) : Type 0 where
  pub parts : List StatePart
  pub added : after ≡ before ++ parts
  pub nodes : List (ℕ × Node)
  pub files : List (ℕ × ℕ)
  pub runs : List Run
  pub kept : IsKept p nodes files runs
  pub ordered : map part_of parts ≡ parts_of nodes files runs p.view.parked
  pub fit : AreTold p.rules p.view.directory.next_node p.view.directory.next_fh (map part_of parts)
  pub tell : snapshot_of (told_by p.rules p.view.directory.next_node p.view.directory.next_fh (map part_of parts)) ≡ p
