use Rattle.std.proofs.Common.{refl}
use Rattle.fl_record.proofs.Histories.{asks_begin, history_begins}
use Rattle.fl_record.proofs.seat.Seat.note_stored.Goals as goal

pub returns-clause-there : goal.returns-clause-there
returns-clause-there g c =
    rw (← c.self.view_is) (λ _. history_begins g.L.BoardName.rules _ _ (c.if-not-begins.ensures.begins.0 refl), λ _. refl)

pub returns-then-not-begins-clause-there : goal.returns-then-not-begins-clause-there
returns-then-not-begins-clause-there g c =
    rw (← c.self.view_is) (λ t. absurd (cc t), λ there. c.if-not-begins.ensures.begins.1 (asks_begin g.L.BoardName.rules _ _ there))
