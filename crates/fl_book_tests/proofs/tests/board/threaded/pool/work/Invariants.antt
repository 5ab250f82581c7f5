use Rattle.fl_counter.specs.Tolds.{HasRoom}
use Rattle.fl_book_tests.proofs.tests.board.threaded.pool.work.Given as goal

abbrev pub invariant-loop-round : goal.invariant-loop-round
invariant-loop-round g l = HasRoom g.L.BoardName.rules l.tolds
