use Rattle.fl_core.proofs.Lawful.{lawful_next}
use Rattle.fl_core.proofs.laws.an_order_keeps_locks_lawful.Goals as goal

pub returns : goal.returns
returns c =
    let law = c.a_change_without_conflict_keeps_locks_lawful.ensures in
    record {
      nothing = λ rules. law.nothing;
      step = lawful_next (record { struck = law.struck; cleared = law.cleared });
    }
