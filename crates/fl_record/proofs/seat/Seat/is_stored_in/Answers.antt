use Rattle.fl_record.proofs.Histories.{asks_begin, history_begins}
use Rattle.fl_record.proofs.seat.Seat.is_stored_in.Goals as goal

pub returns : goal.returns
returns g c =
    let ours = g.L.BoardName.rules in
    rw (← c.self.view_is) (
      λ t. history_begins ours _ _ (c.begins.ensures.begins.0 t),
      λ front. c.begins.ensures.begins.1 (asks_begin ours _ _ front),
    )
