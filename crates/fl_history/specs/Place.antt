-- Where lines end in the whole of a history that stands in pieces.
use Rattle.std.specs.Prelude.{ℕ, ◌+◌, ◌-◌, ◌^◌, ◌==◌, ◌||◌, min, true, false, List, if◌then◌else◌}
use Rattle.std.specs.List.{fold}
use Rattle.fl_history.specs.declared.history.Line.{Line}
use Rattle.fl_history.specs.declared.history.Line.TheVariants as line
use Rattle.fl_history.specs.declared.place.Place.{Place}
use Rattle.fl_order.specs.declared.state_part.StateLine.{StateLine}
use Rattle.fl_order.specs.declared.state_part.StateLine.TheVariants as state

-- no lines
abbrev pub nowhere : Place
nowhere = record { headed = false; lines = 0 }

-- how many orders and replies there are up to a line of a head: its first line says it
abbrev pub lines_before : ℕ → StateLine → ℕ
lines_before lines (state.Head head) = head.lines
lines_before lines _ = lines

-- One line more. Lines of a head count for nothing, and only the first of all lines can begin one.
abbrev pub with_place : Place → Line → Place
with_place p (line.State s) =
    if p.headed || (p.lines == 0) then record { headed = true; lines = lines_before p.lines s } else p
with_place p _ = record { headed = p.headed; lines = min (p.lines + 1) (2 ^ 64 - 1) }

-- where lines end
abbrev pub place_of : List Line → Place
place_of lines = fold with_place nowhere lines
