use Rattle.fl_counter.specs.Tolds.{HasRoom}
use Rattle.fl_book_tests.proofs.tests.board.looks.lock_more_and_more.Given as goal

abbrev pub invariant-loop-last : goal.invariant-loop-last
invariant-loop-last g l = HasRoom g.L.BoardName.rules l.tolds
