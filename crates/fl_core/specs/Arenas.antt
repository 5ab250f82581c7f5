-- The arenas that hold what is there.
use Rattle.std.specs.Prelude.{◌≡◌, length, map}
use Rattle.fl_dir.specs.Arenas.{bare, joined, values_on}
use Rattle.fl_dir.specs.Listed.{nodes_on}
use Rattle.fl_dir.specs.Linked as dir
use Rattle.fl_ranges.specs.Layout.{marking_in, table_runs}
use Rattle.fl_ranges.specs.Rows as rows
use Rattle.fl_waiting.specs.Chains.{IsLinked, items}
use Rattle.fl_waiting.specs.declared.claim.Claim.{Claim}
use Rattle.fl_core.specs.Kept.{IsKept}
use Rattle.fl_core.specs.State.{Snapshot}
use Rattle.fl_core.specs.declared.arenas.Arenas.{Arenas}

-- in each of the six arenas no slot is linked twice, and none is free while it is linked
pub record AreLinked (a : Arenas) : Type 0 where
  pub directory : dir.AreLinked a.directory
  pub locks : rows.AreLinked a.locks.now
  pub parked : IsLinked a.parked.now

-- how many chains the arenas have that are walked along: those of nodes and open files as many as is said, that of
-- parked requests one
pub record AreCounted (a : Arenas) : Type 0 where
  pub nodes : a.directory.node_chains ≡ length a.directory.nodes.now.chains
  pub files : a.directory.file_chains ≡ length a.directory.files.now.chains
  pub parked : length a.parked.now.chains ≡ 1

-- what stands in the arenas is what is there: nodes, open files, locks, and parked requests in the order of asking; and
-- these numbers come next
pub record Hold (a : Arenas) (p : Snapshot) : Type 0 where
  pub nodes : bare (values_on a.directory.nodes.now) ≡ p.view.directory.nodes
  pub files : values_on a.directory.files.now ≡ p.view.directory.files
  pub next_node : a.directory.next_node ≡ p.view.directory.next_node
  pub next_fh : a.directory.next_fh ≡ p.view.directory.next_fh
  pub locks : marking_in a.locks.now ≡ p.marking
  pub parked : map (λ (claim : Claim). claim.request) (items a.parked.now 0) ≡ p.view.parked

-- each stands there once, in some order, and all that a core keeps of them is so
abbrev pub Keep : Arenas → Snapshot → Type 0
Keep a p =
    IsKept p (nodes_on a.directory.nodes.now) (joined a.directory.files.now.chains) (table_runs a.locks.now)
