-- The rows of a list of locks: who holds what, who waits for what, and for whom (lslocks(8)).
use Rattle.std.specs.Prelude.{◌≡◌, ℕ, ◌≤◌, ◌==◌, Bool, Option, Some, None, option_map, List, [], ◌∷◌, ◌++◌, map}
use Rattle.std.specs.Prelude.{if◌then◌else◌}
use Rattle.std.specs.List.{filter, flat_map, list_any, cons_option}
use Rattle.std.specs.Ordering.{nat_cmp}
use Rattle.std.specs.FinMap.{entries, from_entries, keys}
use Rattle.fl_marks.specs.declared.lock.Mark.{Mark}
use Rattle.fl_marks.specs.declared.run.Run.{Run}
use Rattle.fl_marks.specs.Marking.{Marking}
use Rattle.fl_marks.specs.HeldRuns.{runs_in_order}
use Rattle.fl_dir.specs.Directory.{Listing}
use Rattle.fl_dir.specs.Naming.{name_at, is_linked_at}
use Rattle.fl_waiting.specs.declared.parked.Request.{Request}
use Rattle.fl_waiting.specs.declared.rules.Rules.{Rules}
use Rattle.fl_waiting.specs.LockRequest.{key_of, start_of, end_of, mark_of, stroke_of}
use Rattle.fl_waiting.specs.Waiting.{Wish, wish_on, wishes, older_blocks, is_blocked_by, only}
use Rattle.fl_core.specs.State.{Snapshot}
use Rattle.fl_locks.specs.declared.row.Blocker.{Blocker}
use Rattle.fl_locks.specs.declared.row.LockRow.{LockRow}

-- ---- who is in the way

-- the lock that a run holds
abbrev pub lock_on : Run → Wish
lock_on r = record { key = r.key; start = r.start; end = r.end; kind = r.mark.kind }

-- who holds a run
abbrev pub holder : Run → Blocker
holder r = record { owner = r.key.owner; pid = r.mark.pid }

-- who asks for a lock
abbrev pub asker : Request → Blocker
asker r = record { owner = r.ask.owner; pid = r.ask.pid }

-- under fair rules an older request goes before one for this lock
abbrev pub goes_first : Wish → Request → Bool
goes_first w older = list_any (older_blocks w) (wishes (older ∷ []))

-- who is in the way of a lock that is wanted: those who hold one of these runs that conflicts with it, then, under
-- fair rules, those of the older requests that go first
abbrev pub in_the_way_of : Rules → List Run → List Request → Wish → List Blocker
in_the_way_of rules runs older w =
    map holder (filter (λ r. older_blocks w (lock_on r)) runs)
    ++ (if rules.fair then map asker (filter (goes_first w) older) else [])

-- the owners in ascending order, each once, with the pid that comes first
abbrev pub first_pids : List Blocker → List Blocker
first_pids bs =
    map (λ (e : ℕ × ℕ). record { owner = e.0; pid = e.1 })
    (entries (from_entries {R = nat_cmp} (map (λ (b : Blocker). (b.owner, b.pid)) bs)))

-- the owners who keep a request for this lock waiting, behind these older ones
abbrev pub blockers_of : Rules → Marking → List Request → Wish → List Blocker
blockers_of rules m older w = first_pids (in_the_way_of rules (runs_in_order m) older w)

-- an owner is among the blockers of a lock that is wanted exactly if the owner blocks it
abbrev pub BlockersBlock : Snapshot → Type 0
BlockersBlock s =
    (older : List Request) (w : Wish) (owner : ℕ) → w.start ≤ w.end
    → list_any (λ (b : Blocker). b.owner == owner) (blockers_of s.rules s.marking older w)
    ≡ is_blocked_by s.rules (only owner) s.marking (wishes older) w

-- ---- rows

-- the row of a lock that is held
abbrev pub held_row : Listing → Run → LockRow
held_row d r = record {
  key = r.key;
  start = r.start;
  end = r.end;
  mark = r.mark;
  name = name_at d r.key.node;
  linked = is_linked_at d r.key.node;
  unique = None;
  blockers = [];
}

-- the row of a request that waits behind these older ones; none if it asks to unlock, which none does that waits
abbrev pub waiting_row : Snapshot → List Request → Request → Option LockRow
waiting_row s older r =
    option_map
    (λ (mark : Mark). record {
      key = key_of r.node r.ask;
      start = start_of r.ask;
      end = end_of r.ask;
      mark = mark;
      name = name_at s.view.directory r.node;
      linked = is_linked_at s.view.directory r.node;
      unique = Some r.unique;
      blockers = blockers_of s.rules s.marking older (wish_on (stroke_of r.node r.ask) mark);
    }) (mark_of r.ask)

-- the rows of requests, each behind these older ones and those before it
abbrev pub waiting_rows : Snapshot → List Request → List Request → List LockRow
waiting_rows s older [] = []
waiting_rows s older (r ∷ parked) = cons_option (waiting_row s older r) (waiting_rows s (older ++ r ∷ []) parked)

-- the name that the file of a row has; none once it is unlinked
abbrev pub linked_name : LockRow → Option (List ℕ)
linked_name row = if row.linked then row.name else None

-- the nodes of rows, in ascending order
abbrev pub nodes_of : List LockRow → List ℕ
nodes_of rows = keys (from_entries {R = nat_cmp} (map (λ (row : LockRow). (row.key.node, row)) rows))

-- rows by node in ascending order; those of one node stay in their order
abbrev pub by_node : List LockRow → List LockRow
by_node rows = flat_map (λ (node : ℕ). filter (λ (row : LockRow). row.key.node == node) rows) (nodes_of rows)

-- all rows: of each node first the locks that are held, then the requests that wait, the oldest first
abbrev pub rows_of : Snapshot → List LockRow
rows_of s =
    by_node (map (held_row s.view.directory) (runs_in_order s.marking) ++ waiting_rows s [] s.view.parked)
