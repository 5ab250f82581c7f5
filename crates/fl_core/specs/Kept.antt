-- What a core keeps of what is there, as it stands in its arenas.
use Rattle.std.specs.Prelude.{◌≡◌, ℕ, ◌≤◌, false, List, length}
use Rattle.std.specs.List.{AllByRecursion}
use Rattle.fl_core.specs.State.{Snapshot}
use Rattle.fl_dir.specs.Directory.{Listing}
use Rattle.fl_dir.specs.Listed.{IsListed}
use Rattle.fl_dir.specs.declared.node.Node.{Node}
use Rattle.fl_marks.specs.declared.run.Run.{Run}
use Rattle.fl_ranges.specs.Setting.{CanBeSet}
use Rattle.fl_waiting.specs.LockRequest.{is_malformed}
use Rattle.fl_waiting.specs.Waiting.{AllWait, AreApart}
use Rattle.fl_waiting.specs.declared.parked.Request.{Request}
use Rattle.fl_waiting.specs.declared.rules.Rules.{Rules}

-- there may be as many files and open files in the directory as the rules allow
pub record IsRuled (rules : Rules) (d : Listing) : Type 0 where
  pub nodes : d.most_nodes ≡ rules.files
  pub files : d.most_files ≡ rules.open_files

-- These are the nodes, the open files and the runs of locked bytes. Each parked request is well-formed and waits behind
-- those before it, no two have one unique, and no more wait than the rules allow.
pub record IsKept (p : Snapshot) (nodes : List (ℕ × Node)) (files : List (ℕ × ℕ)) (runs : List Run) : Type 0 where
  pub ruled : IsRuled p.rules p.view.directory
  pub listed : IsListed p.view.directory nodes files
  pub settable : CanBeSet p.rules.runs p.marking runs
  pub formed : AllByRecursion (λ (r : Request). is_malformed r.ask ≡ false) p.view.parked
  pub waiting : AllWait p.rules p.marking p.view.parked
  pub apart : AreApart p.view.parked
  pub few : length p.view.parked ≤ p.rules.parked
