use Rattle.std.proofs.Common.{◌≡◌, take, map, filter}
use Rattle.fl_counter.specs.Tolds.{HasRoom}
use Rattle.fl_desk.specs.Legal.{is_asked}
use Rattle.lockd_commands.specs.Script.{line_of}
use Rattle.lockd_commands.proofs.script.take_each.Given as goal

-- the desk keeps its rules, there is room for the replies of an order by them, and was asked what is asked so far
abbrev pub invariant-loop-ask : goal.invariant-loop-ask
invariant-loop-ask l =
    (l.desk.present.rules ≡ l.fn.rules) × HasRoom l.fn.rules l.tolds
    × (filter is_asked l.desk.lines ≡ map line_of (take l.ask-index l.asks))
