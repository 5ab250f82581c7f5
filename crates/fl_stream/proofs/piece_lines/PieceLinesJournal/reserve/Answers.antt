use Rattle.std.proofs.Common.{subst}
use mathlib.Core.List.{IsPrefix}
use Rattle.fl_stream.proofs.PieceLemmas.{more_stored}
use Rattle.fl_stream.specs.Pieced.{Pieced, behind_head, stored_of}
use Rattle.fl_stream.proofs.piece_lines.PieceLinesJournal.reserve.Goals as goal

pub returns-clause-stored : goal.returns-clause-stored
returns-clause-stored g c =
    let before = c.self.inside.before.items in
    let head = c.self.inside.head.items in
    subst (λ (p : Pieced). IsPrefix (stored_of p) (behind_head before head c.reserve.new.self.noted)) c.self.view_is
    (more_stored before head c.self.inside.here.noted c.reserve.new.self.noted c.reserve.ensures.stored)
