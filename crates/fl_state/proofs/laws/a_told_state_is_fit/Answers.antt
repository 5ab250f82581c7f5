use Rattle.fl_state.proofs.Parts.{told_fit}
use Rattle.fl_state.proofs.laws.a_told_state_is_fit.Goals as goal

pub returns : goal.returns
returns c rules node fh parts told =
    let marks = c.a_change_without_conflict_keeps_locks_lawful.ensures in told_fit marks.struck rules node fh marks.nothing told
