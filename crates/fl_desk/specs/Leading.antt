-- What a history leads to.
use Rattle.std.specs.Prelude.{◌≡◌, ℕ, List, [], ◌∷◌, ◌++◌}
use Rattle.fl_core.specs.State.{Snapshot, snapshot_of}
use Rattle.fl_core.specs.Step.{replies}
use Rattle.fl_marks.specs.Conflict.{IsLawful}
use Rattle.fl_waiting.specs.Waiting.{AllWait, AreApart}
use Rattle.fl_counter.specs.Answered.{step_lines}
use Rattle.fl_desk.specs.Legal.{IsLegal}
use Rattle.fl_desk.specs.Replay.{state_after}
use Rattle.fl_history.specs.declared.history.Line.{Line}
use Rattle.fl_history.specs.declared.history.Line.TheVariants as line
use Rattle.fl_order.specs.declared.state_part.Head.{Head}
use Rattle.fl_order.specs.declared.state_part.StateLine.TheVariants as state
use Rattle.fl_order.specs.declared.state_part.StatePart.{StatePart}
use Rattle.fl_desk.specs.Heads.{IsToldBy}
use Rattle.fl_waiting.specs.declared.rules.Rules.{Rules}
use Rattle.fl_order.specs.declared.order.Order.{Order}

-- This is there after the history, which is legal under its rules: each parked request has to wait, no two have one
-- unique, and no two owners have conflicting locks on a byte.
pub record LeadsTo (lines : List Line) (p : Snapshot) : Type 0 where
  pub legal : IsLegal p.rules lines
  pub stands : p ≡ snapshot_of (state_after p.rules lines)
  pub waiting : AllWait p.rules p.marking p.view.parked
  pub apart : AreApart p.view.parked
  pub lawful : IsLawful p.marking

-- Behind lines that lead there no lines are left; or one order more, with the replies that it gets, and other lines; or,
-- if there are none before, a head.
pub data GoesOn (before : List Line) (p : Snapshot) (lines : List Line) : Type 0 where
  ends : lines ≡ [] → GoesOn before p lines
  goes : (worker : ℕ) (order : Order) (rest : List Line)
      → lines ≡ step_lines worker order (replies p order) ++ rest → GoesOn before p lines
  heads : before ≡ [] → (head : Head) (rest : List Line) → lines ≡ line.State (state.Head head) ∷ rest
      → GoesOn before p lines

-- Behind a head so far comes one more part, which fits what those before it tell, or its end.
pub data GoesOnTelling (rules : Rules) (head : Head) (parts : List StatePart) (lines : List Line) : Type 0 where
  more : (part : StatePart) (rest : List Line) → lines ≡ line.State (state.Part part) ∷ rest
      → IsToldBy rules head (parts ++ part ∷ []) → GoesOnTelling rules head parts lines
  whole : (rest : List Line) → lines ≡ line.State state.Go ∷ rest → IsToldBy rules head parts
      → GoesOnTelling rules head parts lines
