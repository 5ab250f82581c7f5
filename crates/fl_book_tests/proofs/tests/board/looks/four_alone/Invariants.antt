use Rattle.fl_counter.specs.Tolds.{HasRoom}
use Rattle.fl_book_tests.proofs.tests.board.looks.four_alone.Given as goal

abbrev pub invariant-loop : goal.invariant-loop
invariant-loop g l = HasRoom g.L.BoardName.rules l.tolds
