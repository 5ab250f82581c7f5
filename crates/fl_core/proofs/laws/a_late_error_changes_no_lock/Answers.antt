use Rattle.fl_core.proofs.Effects.{late_error}
use Rattle.fl_core.proofs.laws.a_late_error_changes_no_lock.Goals as goal

pub returns : goal.returns
returns c = late_error
