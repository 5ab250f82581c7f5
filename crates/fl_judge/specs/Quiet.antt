-- Histories in which no owner asks for a record lock while it waits for one, and what comes of it.
use Rattle.std.specs.Prelude.{◌≡◌, ◌≢◌, ℕ, Bool, false, Option, Some, None, List, [], ◌∷◌, ◌++◌}
use Rattle.std.specs.List.{AllByRecursion}
use Rattle.fl_waiting.specs.Circle.{waiter_of, blocks, waiters, IsPath}
use Rattle.fl_core.specs.Stages.{asked_by}
use Rattle.fl_core.specs.State.{Snapshot, snapshot_of}
use Rattle.fl_waiting.specs.declared.parked.Request.{Request}
use Rattle.fl_desk.specs.Heads.{IsHead}
use Rattle.fl_desk.specs.Legal.{IsLegal}
use Rattle.fl_desk.specs.Replay.{state_after}
use Rattle.fl_history.specs.declared.history.Line.{Line}
use Rattle.fl_history.specs.declared.history.Line.TheVariants as line
use Rattle.fl_order.specs.declared.order.Order.{Order}
use Rattle.fl_waiting.specs.Waiting.{Wish, is_waiting, owner_of, wishes}
use Rattle.fl_waiting.specs.declared.rules.Rules.{Rules}

-- an owner asks for a record lock, if one does, while a record request of its own is parked
abbrev pub asks_while_waiting : Option ℕ → List Request → Bool
asks_while_waiting None parked = false
asks_while_waiting (Some owner) parked = is_waiting owner parked

-- No order of the lines does so, in the state that the lines before it lead to under these rules. Each SETLK and
-- SETLKW for a record lock of type read or write counts, whatever it is answered.
abbrev pub IsQuiet : Rules → List Line → Type 0
IsQuiet rules lines =
    (before : List Line) (worker : ℕ) (order : Order) (rest : List Line)
    → lines ≡ before ++ line.Asked worker order ∷ rest
    → asks_while_waiting (asked_by order.op) (state_after rules before).view.parked ≡ false

-- There is no cycle of owners: no path, of one or more, in which each waits for a record lock, and is blocked by the
-- next, and the last by the first (POSIX.1-2017 `fcntl`, EDEADLK).
abbrev pub HasNoCircle : Snapshot → Type 0
HasNoCircle p =
    (first : ℕ) (others : List ℕ)
    → IsPath waiter_of (blocks p.rules p.marking) (waiters p.view.parked) first others first → ⊥

-- There are none after any order of the lines: no beginning of them that is legal under these rules leads to a circle.
abbrev pub HasNoCircles : Rules → List Line → Type 0
HasNoCircles rules lines =
    (before rest : List Line) → lines ≡ before ++ rest → IsLegal rules before
    → HasNoCircle (snapshot_of (state_after rules before))

-- no two wanted record locks are of one owner
abbrev pub AreLone : List Wish → Type 0
AreLone [] = Unit {0}
AreLone (w ∷ ws) = AllByRecursion (λ (v : Wish). owner_of v ≢ owner_of w) ws × AreLone ws

-- no owner waits for two record locks, and none waits in a circle
pub record IsCalm (p : Snapshot) : Type 0 where
  pub lone : AreLone (wishes p.view.parked)
  pub straight : HasNoCircle p

-- A head that the lines begin with, if they do with one, tells a calm state. To a state in which an owner waits for two
-- record locks, a quiet history may add a circle.
abbrev pub OpensCalm : Rules → List Line → Type 0
OpensCalm rules lines =
    (front rest : List Line) → lines ≡ front ++ rest → IsHead rules front
    → IsCalm (snapshot_of (state_after rules front))
