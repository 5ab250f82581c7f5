-- Whether the same is there in two states, whatever their rules.
use Rattle.std.specs.Prelude.{◌≡◌}
use Rattle.fl_core.specs.State.{Snapshot}

-- both have the same files, open files, numbers that come next, locks, and requests that wait, in the same order
pub record HaveSame (p q : Snapshot) : Type 0 where
  pub nodes : p.view.directory.nodes ≡ q.view.directory.nodes
  pub files : p.view.directory.files ≡ q.view.directory.files
  pub next_node : p.view.directory.next_node ≡ q.view.directory.next_node
  pub next_fh : p.view.directory.next_fh ≡ q.view.directory.next_fh
  pub locks : p.marking ≡ q.marking
  pub parked : p.view.parked ≡ q.view.parked
