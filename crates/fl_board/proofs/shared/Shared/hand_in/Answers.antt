use Rattle.fl_board.proofs.Batches.{stored_or_not}
use Rattle.fl_board.proofs.shared.Shared.hand_in.Goals as goal

pub returns-in-Ok-clause-handed : goal.returns-in-Ok-clause-handed
returns-in-Ok-clause-handed g c =
    stored_or_not g.L.BoardName.rules _ _ _ _ _ _ c.store_if_due.ensures.noted c.store_if_due.ensures.waits c.in-Ok.ensures.handed
