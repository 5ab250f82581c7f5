use Rattle.std.proofs.Common.{◌≡◌, ◌∙◌, ◌++◌, ◌∷◌, [], ℕ, Bool, true, Option, Some, None, option_map, List, map, refl, ap}
use Rattle.std.specs.List.{cons_option}
use Rattle.fl_core.specs.State.{Snapshot}
use Rattle.fl_locks.specs.LockRows.{blockers_of, waiting_rows}
use Rattle.fl_locks.specs.declared.row.LockRow.{LockRow}
use Rattle.fl_dir.specs.Naming.{name_at, is_linked_at}
use Rattle.fl_marks.specs.declared.lock.Mark.{Mark}
use Rattle.fl_waiting.specs.LockRequest.{mark_of, stroke_of, key_of, start_of, end_of}
use Rattle.fl_waiting.specs.Waiting.{waits, passes, is_blocked_by, anyone, wishes, wish_on, AllBehind}
use Rattle.fl_waiting.specs.declared.parked.Request.{Request}
use Rattle.fl_locks.proofs.laws.each_request_that_waits_has_a_row.Goals as goal

-- the row of a request that asks for this mark
abbrev row_of : Snapshot → List Request → Request → Mark → LockRow
row_of s older r mark = record {
  key = key_of r.node r.ask;
  start = start_of r.ask;
  end = end_of r.ask;
  mark = mark;
  name = name_at s.view.directory r.node;
  linked = is_linked_at s.view.directory r.node;
  unique = Some r.unique;
  blockers = blockers_of s.rules s.marking older (wish_on (stroke_of r.node r.ask) mark);
}

-- a request that passes a test of its mark has one, and so a row
one : (s : Snapshot) (older : List Request) (r : Request) (test : Mark → Bool) (o : Option Mark) → passes test o ≡ true → (rest : List LockRow) →
    map (λ (row : LockRow). row.unique) (cons_option (option_map (row_of s older r) o) rest) ≡ Some r.unique ∷ map (λ (row : LockRow). row.unique) rest
one s older r test None is rest = absurd (cc is)
one s older r test (Some mark) is rest = refl

each : (s : Snapshot) (older parked : List Request) → AllBehind (λ older r. waits s.rules s.marking older r ≡ true) older parked →
    map (λ (row : LockRow). row.unique) (waiting_rows s older parked) ≡ map (λ (r : Request). Some r.unique) parked
each s older [] wait = refl
each s older (r ∷ parked) wait =
    one s older r (λ (mark : Mark). is_blocked_by s.rules anyone s.marking (wishes older) (wish_on (stroke_of r.node r.ask) mark)) (mark_of r.ask) wait.0
    (waiting_rows s (older ++ r ∷ []) parked)
    ∙ ap (λ (l : List (Option ℕ)). Some r.unique ∷ l) (each s (older ++ r ∷ []) parked wait.1)

pub returns : goal.returns
returns c s wait = each s [] s.view.parked wait
