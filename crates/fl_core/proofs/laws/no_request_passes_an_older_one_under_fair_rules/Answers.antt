use Rattle.fl_core.proofs.Fair.{not_passed, stays_behind}
use Rattle.fl_core.proofs.laws.no_request_passes_an_older_one_under_fair_rules.Goals as goal

pub returns-clause-asked : goal.returns-clause-asked
returns-clause-asked c = not_passed

pub returns-clause-parked : goal.returns-clause-parked
returns-clause-parked c = stays_behind
