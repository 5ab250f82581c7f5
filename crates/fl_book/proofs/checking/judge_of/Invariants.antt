use Rattle.std.proofs.Common.{◌≡◌, take}
use Rattle.fl_book.proofs.checking.judge_of.Given as goal

abbrev pub invariant-loop-at : goal.invariant-loop-at
invariant-loop-at l = l.judge ≡ record { rules = l.fn.rules; lines = take l.at l.history }
