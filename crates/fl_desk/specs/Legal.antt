-- Which histories are those of a single thread, under the rules by which requests wait: each order is answered as the
-- sequential lock directory answers then, from nothing on or from the state that a head tells.
use Rattle.std.specs.Prelude.{◌≡◌, ℕ, Bool, true, false, List, [], ◌++◌, count_by}
use Rattle.fl_desk.specs.Heads.{IsHead}
use Rattle.fl_desk.specs.Replay.{state_after}
use Rattle.fl_core.specs.State.{snapshot_of}
use Rattle.fl_counter.specs.Answered.{step_lines}
use Rattle.fl_core.specs.Step.{replies_in}
use Rattle.fl_history.specs.declared.history.Line.{Line}
use Rattle.fl_history.specs.declared.history.Line.TheVariants as line
use Rattle.fl_order.specs.declared.order.Order.{Order}
use Rattle.fl_marks.specs.Conflict.{IsLawful}
use Rattle.fl_waiting.specs.declared.rules.Rules.{Rules}

-- No lines; or a head, whose state can be told; or a legal beginning, and one more order with the replies that it gets
-- in the state after that beginning.
pub data IsLegal (rules : Rules) : List Line → Type 0 where
  nothing : IsLegal rules []
  headed : {lines : List Line} → IsHead rules lines → IsLegal rules lines
  step : (before : List Line) (worker : ℕ) (order : Order) {lines : List Line} → IsLegal rules before
      → lines ≡ before ++ step_lines worker order (replies_in (state_after rules before) order) → IsLegal rules lines

-- once all lines are read, no two owners have conflicting locks on a byte
abbrev pub LeavesLawful : Rules → List Line → Type 0
LeavesLawful rules lines = IsLawful (snapshot_of (state_after rules lines)).marking

-- the line asks
abbrev pub is_asked : Line → Bool
is_asked (line.Asked worker order) = true
is_asked (line.Told told) = false
is_asked (line.State state) = false

-- how many orders the lines ask
abbrev pub orders_asked : List Line → ℕ
orders_asked lines = count_by is_asked lines

-- the line is one of a head
abbrev pub is_state : Line → Bool
is_state (line.State state) = true
is_state _ = false

-- no line is one of a head
abbrev pub HasNoHead : List Line → Type 0
HasNoHead lines = count_by is_state lines ≡ 0

-- a legal history that began with nothing
abbrev pub IsLegalFromNothing : Rules → List Line → Type 0
IsLegalFromNothing rules lines = IsLegal rules lines × HasNoHead lines
