use Rattle.std.proofs.Common.{sym, subst}
use Rattle.fl_marks.specs.Conflict.{IsLawful}
use Rattle.fl_core.specs.State.{Snapshot}
use Rattle.fl_core.proofs.parts.Parts.release.Goals as goal

pub returns-clause-lawful : goal.returns-clause-lawful
returns-clause-lawful c lawful = c.release_locks.ensures.lawful (subst (λ (p : Snapshot). IsLawful p.marking) (sym c.self.view_is) lawful)
