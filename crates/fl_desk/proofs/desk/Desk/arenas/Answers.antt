use Rattle.std.proofs.Common.{subst}
use Rattle.fl_core.specs.Arenas.{Hold}
use Rattle.fl_desk.specs.Kept.{Book}
use Rattle.fl_desk.proofs.desk.Desk.arenas.Goals as goal

pub returns-clause-hold : goal.returns-clause-hold
returns-clause-hold g c = subst (λ (b : Book). Hold c.arenas.result b.present) c.self.view_is c.arenas.ensures.hold
