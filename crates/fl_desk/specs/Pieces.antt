-- A history that stands in pieces: each but the first begins with a head, which tells what is there after those before.
use Rattle.std.specs.Prelude.{◌≡◌, ◌⊎◌, List, ◌++◌}
use Rattle.fl_core.specs.State.{snapshot_of}
use Rattle.fl_desk.specs.Heads.{IsHead}
use Rattle.fl_desk.specs.Legal.{HasNoHead, IsLegal}
use Rattle.fl_desk.specs.Replay.{state_after}
use Rattle.fl_history.specs.Place.{place_of}
use Rattle.fl_history.specs.declared.history.Line.{Line}
use Rattle.fl_waiting.specs.declared.rules.Rules.{Rules}

-- The head tells what is there after a legal history, and has counted all orders and replies of it.
pub record TellsAll (rules : Rules) (before head : List Line) : Type 0 where
  pub legal : IsLegal rules before
  pub is_head : IsHead rules head
  pub same : snapshot_of (state_after rules head) ≡ snapshot_of (state_after rules before)
  pub counted : (place_of head).lines ≡ (place_of before).lines

-- Of all lines, these stand in the piece at hand: a head, which tells what is there after those before it, and all orders
-- and replies behind those. If there is one piece alone, it has all lines.
pub record IsPiece (rules : Rules) (lines piece : List Line) : Type 0 where
  pub before : List Line
  pub head : List Line
  pub since : List Line
  pub all : lines ≡ before ++ since
  pub here : piece ≡ head ++ since
  pub later : HasNoHead since
  pub told : (head ≡ before) ⊎ TellsAll rules before head
