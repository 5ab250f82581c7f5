use Rattle.std.proofs.Common.{◌≡◌}
use Rattle.fl_board.proofs.board.Board.wait_until_stored.Given as goal

abbrev pub invariant-loop : goal.invariant-loop
invariant-loop g l =
    (goal.iterator-loop g).can_next l.iterator' × (goal.iterator-loop g).is_finite l.iterator' × (l.seat ≡ l.fn.seat)
