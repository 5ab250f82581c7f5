use Rattle.fl_board.proofs.Fronts.{look_front, look_had, look_shown}
use Rattle.fl_board.proofs.counter.BoardCounter.look.Goals as goal

pub returns-clause-front : goal.returns-clause-front
returns-clause-front g c =
    look_front g.L.BoardName.rules _ _ _ _ c.look.ensures.same c.look.ensures.shown c.look.ensures.refused

pub returns-clause-had : goal.returns-clause-had
returns-clause-had g c = look_had g.L.BoardName.rules _ _ _ _ c.look.ensures.same c.look.ensures.shown

pub returns-clause-shown : goal.returns-clause-shown
returns-clause-shown g c = look_shown g.L.BoardName.rules _ _ _ _ c.look.ensures.same c.look.ensures.shown
