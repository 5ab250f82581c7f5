-- The result of asks, one after another.
use Rattle.std.specs.Prelude.{List, [], ◌∷◌, ◌++◌}
use Rattle.fl_core.specs.State.{Snapshot, opening, snapshot_of}
use Rattle.fl_core.specs.Step.{next, replies}
use Rattle.fl_counter.specs.Answered.{step_lines}
use Rattle.fl_history.specs.declared.history.Line.{Line}
use Rattle.fl_log.specs.Asked.{Ask}
use Rattle.fl_replica.specs.Asks.{present_after as present_from}
use Rattle.fl_waiting.specs.declared.rules.Rules.{Rules}

-- what is there after an ask
abbrev pub stepped : Snapshot → Ask → Snapshot
stepped p ask = next p ask.order

-- what is there after these asks, under these rules
abbrev pub present_after : Rules → List Ask → Snapshot
present_after rules asks = present_from next (snapshot_of (opening rules)) asks

-- the lines of an ask
abbrev pub lines_in : Snapshot → Ask → List Line
lines_in p ask = step_lines ask.worker ask.order (replies p ask.order)

-- the lines of these asks, taken one after another, if this is there before the first
abbrev pub lines_from : Snapshot → List Ask → List Line
lines_from p [] = []
lines_from p (ask ∷ asks) = lines_in p ask ++ lines_from (stepped p ask) asks

-- the history that these asks make, under these rules
abbrev pub history_of : Rules → List Ask → List Line
history_of rules asks = lines_from (snapshot_of (opening rules)) asks
