use Rattle.std.proofs.Common.{◌≡◌, ◌++◌, take}
use Rattle.fl_testing.specs.Messages.{longs}
use Rattle.fl_testing.proofs.messages.Messages.longs.Given as goal

-- the numbers so far were added
abbrev pub invariant-loop-number : goal.invariant-loop-number
invariant-loop-number l = l.self.bytes.items ≡ l.initial.self.bytes.items ++ longs (take l.number-index l.numbers)
