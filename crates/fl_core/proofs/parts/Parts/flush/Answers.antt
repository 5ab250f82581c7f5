use Rattle.std.proofs.Common.{sym, subst}
use Rattle.fl_marks.specs.Conflict.{IsLawful}
use Rattle.fl_core.specs.State.{Snapshot}
use Rattle.fl_core.proofs.parts.Parts.flush.Goals as goal

pub returns-clause-lawful : goal.returns-clause-lawful
returns-clause-lawful c lawful = c.unlock.ensures.lawful (subst (λ (p : Snapshot). IsLawful p.marking) (sym c.self.view_is) lawful)
