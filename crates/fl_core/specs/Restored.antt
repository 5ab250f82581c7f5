-- A state that is told by its parts, one after another: each fits what is told before it.
use Rattle.std.specs.Prelude.{ℕ, ◌==◌, Bool, not, ◌&&◌, nat_le, Some, Result, Ok, Err, true, false, List, [], ◌∷◌}
use Rattle.std.specs.Prelude.{◌++◌, length}
use Rattle.fl_core.specs.Replies.{set_reply}
use Rattle.fl_core.specs.State.{State, Snapshot, opening}
use Rattle.fl_dir.specs.Restored.{fits_node, fits_file, with_node, with_file, with_numbers}
use Rattle.fl_dir.specs.declared.node.Node.{Node}
use Rattle.fl_marks.specs.Bytes.{is_range}
use Rattle.fl_marks.specs.Change.{struck}
use Rattle.fl_marks.specs.Marking.{Marking, stroked}
use Rattle.fl_marks.specs.declared.run.Run.{Run}
use Rattle.fl_ranges.specs.Setting.{meant}
use Rattle.fl_waiting.specs.LockRequest.{is_malformed}
use Rattle.fl_waiting.specs.Waiting.{is_parked, waits}
use Rattle.fl_waiting.specs.declared.parked.Request.{Request}
use Rattle.fl_waiting.specs.declared.rules.Rules.{Rules}

-- a part of a state: a node, an open file, a run of bytes with a lock, and a request that waits
pub data Part : Type 0 where
  a_node : ℕ → Node → Part
  a_file : ℕ → ℕ → Part
  a_lock : Run → Part
  a_request : Request → Part

-- no part is told yet, and these numbers come next
abbrev pub begun : Rules → ℕ → ℕ → State
begun rules node fh =
    let s = opening rules in record s { view = record s.view { directory = with_numbers s.view.directory node fh } }

-- one part more
abbrev pub told_part : Part → State → State
told_part (a_node number node) s =
    record s { view = record s.view { directory = with_node s.view.directory number node } }
told_part (a_file fh node) s = record s { view = record s.view { directory = with_file s.view.directory fh node } }
told_part (a_lock r) s = record s { changes = struck (meant r) ∷ s.changes }
told_part (a_request r) s = record s { view = record s.view { parked = s.view.parked ++ r ∷ [] } }

-- the same of what contracts see
abbrev pub with_part : Part → Snapshot → Snapshot
with_part (a_node number node) p =
    record p { view = record p.view { directory = with_node p.view.directory number node } }
with_part (a_file fh node) p = record p { view = record p.view { directory = with_file p.view.directory fh node } }
with_part (a_lock r) p = record p { marking = stroked (meant r) p.marking }
with_part (a_request r) p = record p { view = record p.view { parked = p.view.parked ++ r ∷ [] } }

-- a reply is no error
abbrev pub is_done : {A E : Type 0} → Result A E → Bool
is_done (Ok answer) = true
is_done (Err e) = false

-- a lock can be set: its bytes are a range, it conflicts with none, and there is room
abbrev pub fits_lock : ℕ → Marking → Run → Bool
fits_lock most m r = is_range r.start r.end && is_done (set_reply most m (meant r) (Some r.mark))

-- a request can wait behind these: it is well-formed, as each parked one is, its unique is new, there is room, and
-- something blocks it
abbrev pub fits_request : Rules → Marking → List Request → Request → Bool
fits_request rules m parked r =
    not (is_malformed r.ask)
    && (not (is_parked r.unique parked) && (not (nat_le rules.parked (length parked)) && waits rules m parked r))

-- A part fits what is told so far. Locks come before requests that wait.
abbrev pub fits : Snapshot → Part → Bool
fits p (a_node number node) = fits_node p.view.directory number node
fits p (a_file fh node) = fits_file p.view.directory fh node
fits p (a_lock r) = (length p.view.parked == 0) && fits_lock p.rules.runs p.marking r
fits p (a_request r) = fits_request p.rules p.marking p.view.parked r
