-- All that the walks tell.
use Rattle.std.proofs.Common.{◌≡◌, List, ◌++◌, map, append_assoc, ap, sym, subst, ◌∙◌}
use Rattle.std.proofs.lemmas.List.{map-append}
use Rattle.fl_arena.specs.Chains.{items}
use Rattle.fl_core.specs.Arenas.{Hold, Keep}
use Rattle.fl_core.specs.Restored.{Part}
use Rattle.fl_core.specs.State.{Snapshot, snapshot_of}
use Rattle.fl_core.specs.declared.arenas.Arenas.{Arenas}
use Rattle.fl_dir.specs.Arenas.{joined}
use Rattle.fl_dir.specs.Listed.{nodes_on}
use Rattle.fl_marks.specs.Conflict.{IsLawful}
use Rattle.fl_order.specs.declared.state_part.StatePart.{StatePart}
use Rattle.fl_ranges.specs.Layout.{table_runs}
use Rattle.fl_state.specs.Inside.Saying.{all_items, node_part, file_part, wait_part, lock_part}
use Rattle.fl_state.specs.Parts.{part_of}
use Rattle.fl_state.specs.Telling.{parts_of, told_by, AreTold, Tells}
use Rattle.fl_state.proofs.Sayings.{nodes_said, files_said, locks_said, waits_said}
use Rattle.fl_state.proofs.Wholes.{all_fit, all_told}

module _ (a : Arenas) (p : Snapshot) (hold : Hold a p) (keep : Keep a p) where
  abbrev node_parts : List StatePart
  node_parts = map node_part (all_items a.directory.nodes.now)

  abbrev file_parts : List StatePart
  file_parts = map file_part (all_items a.directory.files.now)

  abbrev lock_parts : List StatePart
  lock_parts = map lock_part (table_runs a.locks.now)

  abbrev wait_parts : List StatePart
  wait_parts = map wait_part (items a.parked.now 0)

  abbrev all_parts : List StatePart
  all_parts = ((node_parts ++ file_parts) ++ lock_parts) ++ wait_parts

  same : map part_of all_parts ≡ parts_of (nodes_on a.directory.nodes.now) (joined a.directory.files.now.chains) (table_runs a.locks.now) p.view.parked
  same =
      map-append part_of ((node_parts ++ file_parts) ++ lock_parts) wait_parts
      ∙ ap (λ l. l ++ map part_of wait_parts) (map-append part_of (node_parts ++ file_parts) lock_parts)
      ∙ ap (λ l. (l ++ map part_of lock_parts) ++ map part_of wait_parts) (map-append part_of node_parts file_parts)
      ∙ (λ i. ((nodes_said a.directory.nodes.now i ++ files_said a.directory.files.now i) ++ locks_said (table_runs a.locks.now) i) ++ waits_said (items a.parked.now 0) i)
      ∙ ap (λ l. parts_of (nodes_on a.directory.nodes.now) (joined a.directory.files.now.chains) (table_runs a.locks.now) l) hold.parked

  pub all_tell : IsLawful p.marking → (before nodes files locks all : List StatePart) → nodes ≡ before ++ node_parts → files ≡ nodes ++ file_parts
      → locks ≡ files ++ lock_parts → all ≡ locks ++ wait_parts → Tells p before all
  all_tell lawful before nodes files locks all first second third last = record {
    parts = all_parts;
    nodes = nodes_on a.directory.nodes.now;
    files = joined a.directory.files.now.chains;
    runs = table_runs a.locks.now;
    kept = keep;
    ordered = same;
    added = last ∙ ap (λ l. l ++ wait_parts) (third ∙ ap (λ l. l ++ lock_parts) (second ∙ ap (λ l. l ++ file_parts) first ∙ append_assoc before node_parts file_parts)
        ∙ append_assoc before (node_parts ++ file_parts) lock_parts) ∙ append_assoc before ((node_parts ++ file_parts) ++ lock_parts) wait_parts;
    fit = subst (AreTold p.rules p.view.directory.next_node p.view.directory.next_fh) (sym same)
        (all_fit p (nodes_on a.directory.nodes.now) (joined a.directory.files.now.chains) (table_runs a.locks.now) keep lawful);
    tell = ap (λ (l : List Part). snapshot_of (told_by p.rules p.view.directory.next_node p.view.directory.next_fh l)) same
        ∙ all_told p (nodes_on a.directory.nodes.now) (joined a.directory.files.now.chains) (table_runs a.locks.now) keep;
  }
