use Rattle.std.proofs.Common.{ap}
use Rattle.fl_board.proofs.Batches.{handed_in_answered, handed_same, none_handed}
use Rattle.fl_board.proofs.Fronts.{handed_in_behind}
use Rattle.fl_record.specs.Seats.{Place}
use Rattle.fl_counter.specs.Answered.{answered_by}
use Rattle.fl_board.proofs.counter.BoardCounter.hand_in_all.Goals as goal

pub returns-clause-own : goal.returns-clause-own
returns-clause-own g c = (handed_same g.L.BoardName.rules _ _ _ _ c.hand_in_all.ensures.handed).0

pub returns-clause-count : goal.returns-clause-count
returns-clause-count g c = (handed_same g.L.BoardName.rules _ _ _ _ c.hand_in_all.ensures.handed).1

pub returns-clause-taken : goal.returns-clause-taken
returns-clause-taken g c = handed_in_answered c.answered_last.ensures g.L.BoardName.rules _ _ _ _ c.hand_in_all.ensures.handed

pub returns-clause-behind : goal.returns-clause-behind
returns-clause-behind g c = handed_in_behind g.L.BoardName.rules _ _ _ _ c.hand_in_all.ensures.handed

pub returns-clause-stored : goal.returns-clause-stored
returns-clause-stored g c = λ some. ap (answered_by c.hand_in_all.new.seat.worker) (c.hand_in_all.ensures.stored some)

pub returns-clause-no_more : goal.returns-clause-no_more
returns-clause-no_more g c = λ none.
    ap (λ (p : Place). p.stored) (none_handed g.L.BoardName.rules _ _ _ _ none c.hand_in_all.ensures.handed)
